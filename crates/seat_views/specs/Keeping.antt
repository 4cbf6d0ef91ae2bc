-- What views keep of numbered things. A view lists the things that it keeps by number, news first.
use Rattle.std.specs.Prelude.{◌≡◌, ℕ, ◌==◌, cond, List, [], ◌∷◌, Option, Some, None}
use mathlib.Core.Option.{some}
use lib.ListN.{get_elem?}

module _ {A : Type 0} where
  -- the first entry of a number
  abbrev pub kept_at : List (ℕ × A) → ℕ → Option A
  kept_at [] k = None
  kept_at (e ∷ es) k = cond (k == e.0) (Some e.1) (kept_at es k)

  -- the contents after news of some
  abbrev pub revised : (ℕ → A) → List (ℕ × A) → ℕ → A
  revised content [] k = content k
  revised content (e ∷ es) k = cond (k == e.0) e.1 (revised content es k)

  -- the contents after news of one
  abbrev pub put : (ℕ → A) → ℕ → A → ℕ → A
  put content k a = revised content ((k, a) ∷ [])

  -- the keepers after a seat took over some
  abbrev pub moved : (ℕ → ℕ) → List (ℕ × A) → ℕ → ℕ → ℕ
  moved keeper [] seat k = keeper k
  moved keeper (e ∷ es) seat k = cond (k == e.0) seat (moved keeper es seat k)

  -- all entries but those of a number
  abbrev pub without : ℕ → List (ℕ × A) → List (ℕ × A)
  without n [] = []
  without n (e ∷ es) = cond (n == e.0) (without n es) (e ∷ without n es)

  -- the first entry of a number alone
  abbrev pub only : ℕ → List (ℕ × A) → List (ℕ × A)
  only n [] = []
  only n (e ∷ es) = cond (n == e.0) (e ∷ []) (only n es)

  -- the news are of things that the entries have
  abbrev pub AreKept : List (ℕ × A) → List (ℕ × A) → Type 0
  AreKept es news = (k : ℕ) (a : A) → kept_at news k ≡ Some a → (b : A) × (kept_at es k ≡ Some b)

-- there is one content for each number; a view that keeps a number has that content, and is the only one
abbrev pub Keeps : {A V : Type 0} → (V → List (ℕ × A)) → List V → (ℕ → A) → (ℕ → ℕ) → Type 0
Keeps {A} {V} part views content keeper =
    (seat : ℕ) (v : V) (k : ℕ) (a : A) → get_elem? views seat ≡ some v → kept_at (part v) k ≡ Some a
    → (keeper k ≡ seat) × (content k ≡ a)
