-- The free leaf that is taken, and given back.
use Rattle.std.proofs.Common.{◌≡◌, ℕ, List, [], ◌∷◌, ◌++◌, refl, sym, ◌∙◌, ap, subst}
use Rattle.leaf_index.specs.Index.{Index, IsTaken}
use Rattle.pass_splits.specs.Splitting.{TakesLeaf}

-- the last of a list is one
pub one_last : (xs ys : List ℕ) (x y : ℕ) → xs ++ x ∷ [] ≡ ys ++ y ∷ [] → x ≡ y
one_last [] [] x y e = cc
one_last [] (z ∷ ys) x y e = let rest : ◌≡◌ {A = List ℕ} [] (ys ++ y ∷ []) = cc in absurd (some_left ys y rest)
  where
    some_left : (ys : List ℕ) (y : ℕ) → ◌≡◌ {A = List ℕ} [] (ys ++ y ∷ []) → ⊥
    some_left [] y f = cc
    some_left (z ∷ ys) y f = cc
one_last (z ∷ xs) [] x y e = let rest : ◌≡◌ {A = List ℕ} (xs ++ x ∷ []) [] = cc in absurd (some_left xs x rest)
  where
    some_left : (xs : List ℕ) (x : ℕ) → ◌≡◌ {A = List ℕ} (xs ++ x ∷ []) [] → ⊥
    some_left [] x f = cc
    some_left (z ∷ xs) x f = cc
one_last (z ∷ xs) (w ∷ ys) x y e = let rest : xs ++ x ∷ [] ≡ ys ++ y ∷ [] = cc in one_last xs ys x y rest

pub never_none : (xs : List ℕ) (x : ℕ) → xs ++ x ∷ [] ≡ [] → ⊥
never_none [] x e = cc
never_none (y ∷ xs) x e = cc

module _ (old mid : Index) (leaf : ℕ) (takes : old ≡ record mid { free = mid.free ++ leaf ∷ [] }) where
  without : record old { free = mid.free } ≡ mid
  without = ap (λ (i : Index). record i { free = mid.free }) takes

  -- given back it is free again
  pub given_back : (new : Index) → new ≡ record mid { free = mid.free ++ leaf ∷ [] } → new ≡ old
  given_back new is = is ∙ sym takes

  pub takes_leaf : (new : Index) → IsTaken mid leaf → new ≡ record mid { entries = new.entries }
      → TakesLeaf leaf old new
  takes_leaf new taken others = record {
    front = mid.free;
    was_free = ap (λ (i : Index). i.free) takes;
    taken = subst (λ (i : Index). IsTaken i leaf) (sym without) taken;
    now = others ∙ (λ i. record (sym without i) { entries = new.entries });
  }
