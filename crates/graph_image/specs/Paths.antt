-- Paths over places.
use Rattle.std.specs.Prelude.{◌≡◌, ℕ, zero, suc, ◌+◌, ◌⊎◌, List, [], ◌∷◌}

-- a path of n links leads from the one place to the other
abbrev pub HasPath : (ℕ → ℕ → Type 0) → ℕ → ℕ → ℕ → Type 0
HasPath Link root zero p = root ≡ p
HasPath Link root (suc n) p = (c : ℕ) × HasPath Link root n c × Link c p

-- a path of n links and of this weight leads there
abbrev pub HasPathBy : (ℕ → ℕ → ℕ → Type 0) → ℕ → ℕ → ℕ → ℕ → Type 0
HasPathBy Link root zero p weight = (root ≡ p) × (weight ≡ 0)
HasPathBy Link root (suc n) p weight =
    (c before step : ℕ) × HasPathBy Link root n c before × Link c p step × (weight ≡ before + step)

-- a trail over the listed places leads from p to q, along links either way
abbrev pub HasTrail : (ℕ → ℕ → Type 0) → ℕ → List ℕ → ℕ → Type 0
HasTrail Link p [] q = p ≡ q
HasTrail Link p (c ∷ cs) q = (Link p c ⊎ Link c p) × HasTrail Link c cs q
