-- Look-ups of ids.
use Rattle.std.proofs.Common.{◌≡◌, ◌≢◌, ℕ, ◌<◌, ◌≤◌, ◌-◌, Bool, true, false, ◌||◌, ◌==◌, List, [], ◌∷◌, Option, Some, None, cond, nat_lt, length, get_or, zero, suc, inl, inr, arith, refl, sym, ap, subst, ◌∙◌, All, Contains}
use Rattle.std.specs.List.Sorted.{IsPermutation, IsNonDecreasing}
use Rattle.std.specs.List.{position_or_len}
use Rattle.std.specs.Bool.{OnTrue}
use Rattle.std.specs.Option.{MatchOption}
use Rattle.std.proofs.lemmas.Bool.{cases_lt}
use Rattle.std.proofs.lemmas.List.{get_or_default, get_or_read}
use Rattle.std.proofs.lemmas.Bool.Decides.{nat_tests}
use Rattle.std.proofs.lemmas.List.Sorted.{Contains-permutation, IsPermutation-sym}
use Rattle.std.proofs.lemmas.List.Sums.{position_or_len_is, fails_before_first}
use Rattle.std.proofs.lemmas.List.Quantifiers.{position-Some}
use Rattle.graph_model.proofs.TestLemmas.{eq_of, self_eq, never}
use Rattle.id_places.specs.Places.{is_among, StartsDense, place_of, IsRight}
use Rattle.id_places.specs.declared.slots.IdSlot.{IdSlot}
use Rattle.id_places.specs.declared.slots.TheConstants.{NOWHERE}

-- an id at some place is among the ids
pub among_at : (ids : List ℕ) (i v : ℕ) → i < length ids → get_or ids i 0 ≡ v → is_among ids v ≡ true
among_at [] i v inside here = absurd (omega arith)
among_at (id ∷ ids) zero v inside here = grind (arith, nat_tests, here)
among_at (id ∷ ids) (suc i) v inside here =
    let more = among_at ids i v (omega arith) here in
    grind (arith, nat_tests, more)

-- an id that is at no place is not
pub not_among : (ids : List ℕ) (v : ℕ) → ((k : ℕ) → k < length ids → get_or ids k 0 ≢ v) → is_among ids v ≡ false
not_among [] v none = refl
not_among (id ∷ ids) v none =
    let more = not_among ids v (λ k inside here. none (suc k) (omega arith) here) in
    let first : id ≢ v = none 0 (omega arith) in
    grind (arith, nat_tests, more, first)

module _ (ids : List ℕ) (v : ℕ) where
  -- an id that stands at a place, and before it nowhere, has this place
  pub place_at : (p : ℕ) → p < length ids → get_or ids p 0 ≡ v → ((k : ℕ) → k < p → get_or ids k 0 ≢ v) → place_of ids v ≡ Some p
  place_at p inside here before =
      let first = position_or_len_is (λ id. id == v) ids p 0 (omega arith) (λ k below. other _ (before k below)) (λ _. same _ here) in
      ap (λ n. cond (nat_lt n (length ids)) (Some n) None) first ∙ ap (λ t. cond t (Some p) None) (within p inside)
    where
      other : (x : ℕ) → x ≢ v → (x == v) ≡ false
      other x apart = grind (arith, nat_tests, apart)

      same : (x : ℕ) → x ≡ v → (x == v) ≡ true
      same x is = grind (arith, nat_tests, is)

      within : (n : ℕ) → n < length ids → nat_lt n (length ids) ≡ true
      within n below = grind (arith, nat_tests, below)

  -- an id that stands nowhere has no place
  pub no_place : ((k : ℕ) → k < length ids → get_or ids k 0 ≢ v) → place_of ids v ≡ None
  no_place none =
      let first = position_or_len_is (λ id. id == v) ids (length ids) 0 (omega arith) (λ k below. other _ (none k below)) (λ beyond. absurd (omega (arith, beyond))) in
      ap (λ n. cond (nat_lt n (length ids)) (Some n) None) first ∙ ap (λ t. cond t (Some (length ids)) None) beyond
    where
      other : (x : ℕ) → x ≢ v → (x == v) ≡ false
      other x apart = grind (arith, nat_tests, apart)

      beyond : nat_lt (length ids) (length ids) ≡ false
      beyond = grind (arith, nat_tests)

-- a search in sorted ids that finds none
pub searched_none : (xs : List ℕ) (x i : ℕ) → (i ≤ length xs) × ((k : ℕ) → k < i → get_or xs k 0 < x) × ((k : ℕ) → i ≤ k → k < length xs → x < get_or xs k 0) → place_of xs x ≡ None
searched_none xs x i none = no_place xs x (λ k inside here. elim (cases_lt k i) [
  | inl before ↦ omega (arith, none.1 k before)
  | inr after ↦ omega (arith, none.2 k after inside)
])

-- of ids without a gap each is as far from the front as from the least
pub place_dense : (ids : List ℕ) (count id least : ℕ) → StartsDense ids count → least ≡ get_or ids 0 least → least ≤ id → id - least < count → place_of ids id ≡ Some (id - least)
place_dense ids count id least dense is low near =
    let first : least ≡ get_or ids 0 0 = get_or_read ids 0 least (omega (arith, dense.within)) is 0 in
    place_at ids id (id - least) (omega (arith, dense.within)) (dense.each (id - least) near ∙ omega arith)
    (λ k below here. omega (arith, dense.each k (omega arith)))

-- and an id that is among the ids is at some place
pub at_among : (ids : List ℕ) (v : ℕ) → is_among ids v ≡ true → Contains ids v
at_among [] v there = absurd (cc)
at_among (id ∷ ids) v there = elim (id == v) as (λ s. (id == v) ≡ s → (s || is_among ids v) ≡ true → Contains (id ∷ ids) v) [
  | true ↦ λ same rest. (0, omega arith, is same)
  | false ↦ λ other rest. let more = at_among ids v rest in (suc more.0, omega arith, more.2)
] refl there
  where
    is : (id == v) ≡ true → id ≡ v
    is same = grind (arith, nat_tests, same)

among_from : (ids : List ℕ) (v : ℕ) → Contains ids v → is_among ids v ≡ true
among_from ids v there = among_at ids there.0 v there.1 (sym (get_or_default ids there.0 v 0 there.1) ∙ there.2)

-- a list in another order has the same ids among it
pub among_permuted : (xs ys : List ℕ) → IsPermutation xs ys → (v : ℕ) → is_among ys v ≡ is_among xs v
among_permuted xs ys moved v = same (is_among ys v) (is_among xs v) refl refl
  where
    same : (s t : Bool) → is_among ys v ≡ s → is_among xs v ≡ t → s ≡ t
    same true true left right = refl
    same false false left right = refl
    same true false left right = sym (among_from xs v (Contains-permutation ys xs v (IsPermutation-sym xs ys moved) (at_among ys v left))) ∙ right
    same false true left right = sym left ∙ among_from ys v (Contains-permutation xs ys v moved (at_among xs v right))

-- an id is among the ids where it has a place
pub among_place : (ids : List ℕ) (v : ℕ) (r : Option ℕ) → r ≡ place_of ids v → MatchOption r (is_among ids v ≡ false) (λ _. is_among ids v ≡ true)
among_place ids v (Some p) is =
    let at = position-Some (λ id. id == v) ids p 0 (sym is) in
    among_at ids p v at.0 (eq_of _ _ at.1)
among_place ids v None is = elim (is_among ids v) as (λ s. is_among ids v ≡ s → s ≡ false) [
  | true ↦ λ there. absurd (nowhere (nat_lt (position_or_len (λ id. id == v) ids) (length ids)) refl is (at_among ids v there))
  | false ↦ λ _. refl
] refl
  where
    nowhere : (t : Bool) → nat_lt (position_or_len (λ id. id == v) ids) (length ids) ≡ t → None ≡ cond t (Some (position_or_len (λ id. id == v) ids)) None → Contains ids v → ⊥
    nowhere true e wrong there = cc
    nowhere false e none there =
        let fails = fails_before_first (λ id. id == v) ids there.0 v (beyond _ _ e there.1) in
        never _ (ap (λ x. x == v) there.2 ∙ self_eq v) fails
      where
        beyond : (n k : ℕ) → nat_lt n (length ids) ≡ false → k < length ids → k < n
        beyond n k e inside = grind (arith, nat_tests, e)

module _ (xs : List ℕ) (i : ℕ) (inside : i < length xs) where
  -- in a sorted list an id at the front stands there first
  pub first_front : i ≡ 0 → place_of xs (get_or xs i 0) ≡ Some i
  first_front front = place_at xs (get_or xs i 0) i inside refl (λ k below here. omega arith)

  -- and so does one that is above the one before it
  pub first_above : IsNonDecreasing xs → i ≢ 0 → OnTrue (nat_lt (get_or xs (i - 1) 0) (get_or xs i 0)) (place_of xs (get_or xs i 0) ≡ Some i)
  first_above up some = above (nat_lt (get_or xs (i - 1) 0) (get_or xs i 0)) refl
    where
      less : (m n : ℕ) → nat_lt m n ≡ true → m < n
      less m n is = grind (arith, nat_tests, is)

      above : (t : Bool) → nat_lt (get_or xs (i - 1) 0) (get_or xs i 0) ≡ t → OnTrue t (place_of xs (get_or xs i 0) ≡ Some i)
      above true is = place_at xs (get_or xs i 0) i inside refl (λ k earlier here.
          omega (arith, here, less _ _ is, up k (i - 1) 0 (omega (arith, some)) (omega arith)))
      above false is = tt

-- a slot that has an id has its first place
pub right_slot : (ids : List ℕ) (slots : List IdSlot) (at id : ℕ) (slot : IdSlot) → All (IsRight ids) slots → at < length slots → slot ≡ get_or slots at slot
    → slot.id ≡ id → slot.place ≢ NOWHERE → place_of ids id ≡ Some slot.place
right_slot ids slots at id slot right inside is same filled =
    ap (place_of ids) (sym same) ∙ subst (IsRight ids) (sym is) (right at slot inside) filled
