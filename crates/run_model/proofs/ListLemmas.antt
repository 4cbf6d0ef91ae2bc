-- How many numbers below a bound a list can have; facts of each element of a list.
use Rattle.std.proofs.Common.{◌≡◌, ℕ, zero, suc, ◌<◌, ◌≤◌, List, [], ◌∷◌, ◌++◌, length, slice_get, get_or, Some, refl, sym, ap, ◌∙◌, arith}
use Rattle.std.specs.Prelude.{Bool, true, false, cond, take, filter, Option, None}
use Rattle.std.specs.List.{AllByRecursion, filter_map, cons_option}
use Rattle.std.proofs.lemmas.Bool.{ne_eqb, eqb-true}
use Rattle.std.proofs.lemmas.List.Folds.{Any-from_list_any}
use Rattle.std.proofs.lemmas.Map.Keys.{IsDistinct-from_apart}
use Rattle.std.proofs.lemmas.Map.Steps.{length-le_from_distinct_below}
use Rattle.std.proofs.lemmas.Option.{slice_get-get_or}

-- numbers below n with no two equal are at most n
pub apart_short : (xs : List ℕ) (n : ℕ) → ((i j a : ℕ) → slice_get xs i ≡ Some a → slice_get xs j ≡ Some a → i ≡ j)
    → ((i a : ℕ) → slice_get xs i ≡ Some a → a < n) → length xs ≤ n
apart_short xs n apart below = length-le_from_distinct_below xs n
    (IsDistinct-from_apart _ xs (λ i j d less within. ne_eqb _ _ (λ same.
    let e = apart i j (get_or xs i d) (slice_get-get_or xs i d (omega arith)) (slice_get-get_or xs j d within ∙ ap Some (sym same)) in omega arith)))
    (λ q any. let there = Any-from_list_any _ xs any in
    below there.0 q (slice_get-get_or xs there.0 there.1 there.2 ∙ ap Some (there.3 ∙ sym (eqb-true q there.1 there.4))))

-- what holds at each place holds of each element
pub all_from_places : {X : Type 0} (P : X → Type 0) (xs : List X) → ((i : ℕ) (x : X) → slice_get xs i ≡ Some x → P x) → AllByRecursion P xs
all_from_places P [] each = tt
all_from_places P (x ∷ xs) each = (each 0 x refl, all_from_places P xs (λ i y at. each (suc i) y at))

-- and of two lists behind each other
pub all_on : {X : Type 0} (P : X → Type 0) (xs ys : List X) → AllByRecursion P xs → AllByRecursion P ys → AllByRecursion P (xs ++ ys)
all_on P [] ys p q = q
all_on P (x ∷ xs) ys p q = (p.0, all_on P xs ys p.1 q)

-- and of the first elements
pub all_taken : {X : Type 0} (P : X → Type 0) (n : ℕ) (xs : List X) → AllByRecursion P xs → AllByRecursion P (take n xs)
all_taken P zero xs p = tt
all_taken P (suc n) [] p = tt
all_taken P (suc n) (x ∷ xs) p = (p.0, all_taken P n xs p.1)

-- and of those that a test takes
pub all_filtered : {X : Type 0} (P : X → Type 0) (p : X → Bool) (xs : List X) → AllByRecursion P xs → AllByRecursion P (filter p xs)
all_filtered P p [] all = tt
all_filtered P p (x ∷ xs) all =
    elim (p x) as (λ t. AllByRecursion P (cond t (x ∷ filter p xs) (filter p xs))) [ true ↦ (all.0, all_filtered P p xs all.1) | false ↦ all_filtered P p xs all.1 ]

-- and of what a function gives of them
pub all_mapped : {X Y : Type 0} (P : X → Type 0) (Q : Y → Type 0) (h : X → Option Y) → ((x : X) (y : Y) → P x → h x ≡ Some y → Q y)
    → (xs : List X) → AllByRecursion P xs → AllByRecursion Q (filter_map h xs)
all_mapped P Q h each [] all = tt
all_mapped P Q h each (x ∷ xs) all =
    elim (h x) as (λ m. h x ≡ m → AllByRecursion Q (cons_option m (filter_map h xs))) [
      | Some y ↦ λ is. (each x y all.0 is, all_mapped P Q h each xs all.1)
      | None ↦ λ is. all_mapped P Q h each xs all.1
    ] refl

-- what holds of each element, by less
pub all_weaker : {X : Type 0} (P Q : X → Type 0) → ((x : X) → P x → Q x) → (xs : List X) → AllByRecursion P xs → AllByRecursion Q xs
all_weaker P Q each [] all = tt
all_weaker P Q each (x ∷ xs) all = (each x all.0, all_weaker P Q each xs all.1)

-- below the length there is an element
pub there : {X : Type 0} (xs : List X) (k : ℕ) → k < length xs → (x : X) × (slice_get xs k ≡ Some x)
there [] k below = absurd (omega arith)
there (x ∷ xs) zero below = (x, refl)
there (x ∷ xs) (suc k) below = there xs k (omega arith)
