-- Elements of lists, of their parts, and of what is left of them by a test.
use Rattle.std.proofs.Common.{◌≡◌, ℕ, zero, suc, ◌+◌, ◌-◌, ◌<◌, ◌≤◌, ◌⊎◌, inl, inr, ⊎_elim, List, [], ◌∷◌, ◌++◌, Bool, true, false, cond, map, length, take, drop, get_or, slice_get, slice_set, Some, refl, sym, ap, ◌∙◌, subst, arith}
use Rattle.std.specs.Prelude.{slice_range, count_by, nat_le, ◌==◌}
use Rattle.std.specs.List.{filter}
use Rattle.std.proofs.lemmas.Bool.{cases_lt, cases_order, eq-eqb, ne_eqb}
use Rattle.std.proofs.lemmas.Bool.Decides.{nat_tests}
use Rattle.std.proofs.lemmas.List.{length-drop, take_more_set}
use Rattle.std.proofs.lemmas.List.Sums.{count_by_more_yes, sum_by-cons, sum_by-take-le}
use Rattle.std.proofs.lemmas.Option.{same_Some, none-some}

-- an element of a list is still there after a push
pub get_pushed : {X : Type 0} (xs : List X) (y : X) (k : ℕ) (x : X) → slice_get xs k ≡ Some x → slice_get (xs ++ y ∷ []) k ≡ Some x
get_pushed [] y k x is = absurd (none-some x is)
get_pushed (z ∷ xs) y zero x is = is
get_pushed (z ∷ xs) y (suc k) x is = get_pushed xs y k x is

-- and before what is appended
pub get_front : {X : Type 0} (xs ys : List X) (k : ℕ) (x : X) → slice_get xs k ≡ Some x → slice_get (xs ++ ys) k ≡ Some x
get_front [] ys k x is = absurd (none-some x is)
get_front (z ∷ xs) ys zero x is = is
get_front (z ∷ xs) ys (suc k) x is = get_front xs ys k x is

-- the pushed one stands at the end
pub get_last : {X : Type 0} (xs : List X) (y : X) → slice_get (xs ++ y ∷ []) (length xs) ≡ Some y
get_last [] y = refl
get_last (z ∷ xs) y = get_last xs y

-- an element after a push was there before, or is the pushed one
pub get_push_cases : {X : Type 0} (xs : List X) (y : X) (k : ℕ) (x : X) → slice_get (xs ++ y ∷ []) k ≡ Some x → (slice_get xs k ≡ Some x) ⊎ ((k ≡ length xs) × (y ≡ x))
get_push_cases [] y zero x is = inr (refl, same_Some y x is)
get_push_cases [] y (suc k) x is = absurd (none-some x is)
get_push_cases (z ∷ xs) y zero x is = inl is
get_push_cases (z ∷ xs) y (suc k) x is = ⊎_elim (λ old. inl old) (λ new. inr (ap suc new.0, new.1)) (get_push_cases xs y k x is)

-- in a list of one there is no other
pub only_one : {X : Type 0} (y : X) (k : ℕ) (x : X) → slice_get (y ∷ []) k ≡ Some x → y ≡ x
only_one y zero x is = same_Some y x is
only_one y (suc k) x is = absurd (none-some x is)

-- below the length there is an element
pub get_within : {X : Type 0} (xs : List X) (k : ℕ) → k < length xs → (x : X) × (slice_get xs k ≡ Some x)
get_within [] k below = absurd (omega arith)
get_within (x ∷ xs) zero below = (x, refl)
get_within (x ∷ xs) (suc k) below = get_within xs k (omega arith)

-- below i + 1 is below i or at it
pub below_cases : (k i : ℕ) → k < i + 1 → (k < i) ⊎ (k ≡ i)
below_cases k i below = ⊎_elim (λ lower. inl lower) (λ upper. inr (omega arith)) (cases_lt k i)

-- ---- elements of a list's image and of a filtered list

-- what stands in an image is the image of what stands there
pub get_map : {X Y : Type 0} (f : X → Y) (xs : List X) (k : ℕ) (y : Y) → slice_get (map f xs) k ≡ Some y → (x : X) × (slice_get xs k ≡ Some x) × (f x ≡ y)
get_map f [] k y at = absurd (none-some y at)
get_map f (x ∷ xs) zero y at = (x, refl, same_Some (f x) y at)
get_map f (x ∷ xs) (suc k) y at = get_map f xs k y at

-- and the other way
pub map_get : {X Y : Type 0} (f : X → Y) (xs : List X) (k : ℕ) (x : X) → slice_get xs k ≡ Some x → slice_get (map f xs) k ≡ Some (f x)
map_get f [] k x at = absurd (none-some x at)
map_get f (x ∷ xs) zero y at = ap (λ z. Some (f z)) (same_Some x y at)
map_get f (x ∷ xs) (suc k) y at = map_get f xs k y at

-- what a test leaves stands in the list and passes
pub record IsKept {X : Type 0} (p : X → Bool) (xs : List X) (x : X) : Type 0 where
  pub at : ℕ
  pub is : slice_get xs at ≡ Some x
  pub passes : p x ≡ true

later : {X : Type 0} (p : X → Bool) (z : X) (zs : List X) (x : X) → IsKept p zs x → IsKept p (z ∷ zs) x
later p z zs x kept = record { at = suc kept.at; is = kept.is; passes = kept.passes }

kept_step : {X : Type 0} (p : X → Bool) (z : X) (zs : List X) → ((k : ℕ) (x : X) → slice_get (filter p zs) k ≡ Some x → IsKept p zs x)
    → (b : Bool) → p z ≡ b → (k : ℕ) (x : X) → slice_get (cond b (z ∷ filter p zs) (filter p zs)) k ≡ Some x → IsKept p (z ∷ zs) x
kept_step p z zs rest true passes zero x at = record { at = zero; is = at; passes = ap p (sym (same_Some z x at)) ∙ passes }
kept_step p z zs rest true passes (suc k) x at = later p z zs x (rest k x at)
kept_step p z zs rest false fails k x at = later p z zs x (rest k x at)

pub get_filter : {X : Type 0} (p : X → Bool) (xs : List X) (k : ℕ) (x : X) → slice_get (filter p xs) k ≡ Some x → IsKept p xs x
get_filter p [] k x at = absurd (none-some x at)
get_filter p (z ∷ zs) k x at = kept_step p z zs (get_filter p zs) (p z) refl k x at

-- what passes is left
left_step : {X : Type 0} (p : X → Bool) (z : X) (zs : List X) → ((i : ℕ) (x : X) → slice_get zs i ≡ Some x → p x ≡ true → (k : ℕ) × (slice_get (filter p zs) k ≡ Some x))
    → (b : Bool) → p z ≡ b → (i : ℕ) (x : X) → slice_get (z ∷ zs) i ≡ Some x → p x ≡ true → (k : ℕ) × (slice_get (cond b (z ∷ filter p zs) (filter p zs)) k ≡ Some x)
left_step p z zs rest true is zero x at passes = (zero, at)
left_step p z zs rest true is (suc i) x at passes = let there = rest i x at passes in (suc there.0, there.1)
left_step p z zs rest false is zero x at passes = absurd (let fails : p x ≡ false = ap p (sym (same_Some z x at)) ∙ is in let both : true ≡ false = sym passes ∙ fails in cc)
left_step p z zs rest false is (suc i) x at passes = rest i x at passes

pub filter_get : {X : Type 0} (p : X → Bool) (xs : List X) (i : ℕ) (x : X) → slice_get xs i ≡ Some x → p x ≡ true → (k : ℕ) × (slice_get (filter p xs) k ≡ Some x)
filter_get p [] i x at passes = absurd (none-some x at)
filter_get p (z ∷ zs) i x at passes = left_step p z zs (filter_get p zs) (p z) refl i x at passes

-- two that a test leaves stand in the list in the same order, and pass
pub record AreKept {X : Type 0} (p : X → Bool) (xs : List X) (x y : X) : Type 0 where
  pub first : ℕ
  pub second : ℕ
  pub rise : first < second
  pub first_at : slice_get xs first ≡ Some x
  pub second_at : slice_get xs second ≡ Some y
  pub first_passes : p x ≡ true
  pub second_passes : p y ≡ true

both_later : {X : Type 0} (p : X → Bool) (z : X) (zs : List X) (x y : X) → AreKept p zs x y → AreKept p (z ∷ zs) x y
both_later p z zs x y kept = record { first = suc kept.first; second = suc kept.second; rise = (let less = kept.rise in omega arith); first_at = kept.first_at; second_at = kept.second_at; first_passes = kept.first_passes; second_passes = kept.second_passes }

pair_step : {X : Type 0} (p : X → Bool) (z : X) (zs : List X) → ((i j : ℕ) (x y : X) → i < j → slice_get (filter p zs) i ≡ Some x → slice_get (filter p zs) j ≡ Some y → AreKept p zs x y)
    → (b : Bool) → p z ≡ b → (i j : ℕ) (x y : X) → i < j → slice_get (cond b (z ∷ filter p zs) (filter p zs)) i ≡ Some x
    → slice_get (cond b (z ∷ filter p zs) (filter p zs)) j ≡ Some y → AreKept p (z ∷ zs) x y
pair_step p z zs rest true passes i zero x y less at_i at_j = absurd (omega arith)
pair_step p z zs rest true passes zero (suc j) x y less at_i at_j =
    let other = get_filter p zs j y at_j in
    record { first = zero; second = suc other.at; rise = omega arith; first_at = at_i; second_at = other.is; first_passes = ap p (sym (same_Some z x at_i)) ∙ passes; second_passes = other.passes }
pair_step p z zs rest true passes (suc i) (suc j) x y less at_i at_j = both_later p z zs x y (rest i j x y (omega arith) at_i at_j)
pair_step p z zs rest false fails i j x y less at_i at_j = both_later p z zs x y (rest i j x y less at_i at_j)

pub get_filter_pair : {X : Type 0} (p : X → Bool) (xs : List X) (i j : ℕ) (x y : X) → i < j → slice_get (filter p xs) i ≡ Some x → slice_get (filter p xs) j ≡ Some y → AreKept p xs x y
get_filter_pair p [] i j x y less at_i at_j = absurd (none-some x at_i)
get_filter_pair p (z ∷ zs) i j x y less at_i at_j = pair_step p z zs (get_filter_pair p zs) (p z) refl i j x y less at_i at_j

-- ---- parts of a list after a write

drop_set_before : {X : Type 0} (a : ℕ) (xs : List X) (at : ℕ) (y : X) → at < a → drop a (slice_set xs at y) ≡ drop a xs
drop_set_before zero xs at y less = absurd (omega arith)
drop_set_before (suc a) [] at y less = refl
drop_set_before (suc a) (x ∷ xs) zero y less = refl
drop_set_before (suc a) (x ∷ xs) (suc at) y less = drop_set_before a xs at y (omega arith)

drop_set_behind : {X : Type 0} (a : ℕ) (xs : List X) (at : ℕ) (y : X) → a ≤ at → drop a (slice_set xs at y) ≡ slice_set (drop a xs) (at - a) y
drop_set_behind zero xs at y le = (λ i. slice_set xs ((let e : at ≡ at - 0 = omega arith in e) i) y)
drop_set_behind (suc a) [] at y le = refl
drop_set_behind (suc a) (x ∷ xs) zero y le = absurd (omega arith)
drop_set_behind (suc a) (x ∷ xs) (suc at) y le = drop_set_behind a xs at y (omega arith) ∙ (λ i. slice_set (drop a xs) ((let e : at - a ≡ suc at - suc a = omega arith in e) i) y)

take_set : {X : Type 0} (n : ℕ) (xs : List X) (at : ℕ) (y : X) → n ≤ at → take n (slice_set xs at y) ≡ take n xs
take_set zero xs at y le = refl
take_set (suc n) [] at y le = refl
take_set (suc n) (x ∷ xs) zero y le = absurd (omega arith)
take_set (suc n) (x ∷ xs) (suc at) y le = ap (λ ys. x ∷ ys) (take_set n xs at y (omega arith))

-- a write before a part or behind it leaves the part
pub range_set_else : {X : Type 0} (xs : List X) (a b at : ℕ) (y : X) → ((at < a) ⊎ (b ≤ at)) → slice_range (slice_set xs at y) a b ≡ slice_range xs a b
range_set_else xs a b at y where_at = ⊎_elim
    (λ low. ap (take (b - a)) (drop_set_before a xs at y low))
    (λ high. ⊎_elim
    (λ below. ap (take (b - a)) (drop_set_before a xs at y below))
    (λ above. ap (take (b - a)) (drop_set_behind a xs at y above) ∙ take_set (b - a) (drop a xs) (at - a) y (omega arith))
    (cases_lt at a))
    where_at

-- a write just behind a part makes it longer by what was written
pub range_set_end : {X : Type 0} (xs : List X) (a at : ℕ) (y : X) → a ≤ at → at < length xs → slice_range (slice_set xs at y) a (at + 1) ≡ slice_range xs a at ++ y ∷ []
range_set_end xs a at y from within =
    let width : at + 1 - a ≡ at - a + 1 = omega arith in
    let room : at - a < length (drop a xs) = (let count = length-drop a xs in omega arith) in
    ap (λ n. take n (drop a (slice_set xs at y))) width ∙ ap (take (at - a + 1)) (drop_set_behind a xs at y from) ∙ take_more_set (drop a xs) (at - a) y room

-- ---- elements of a part

drop_get : {X : Type 0} (a : ℕ) (xs : List X) (k : ℕ) → slice_get (drop a xs) k ≡ slice_get xs (a + k)
drop_get zero xs k = ap (slice_get xs) (let e : k ≡ 0 + k = omega arith in e)
drop_get (suc a) [] k = refl
drop_get (suc a) (x ∷ xs) k = drop_get a xs k ∙ ap (slice_get (x ∷ xs)) (let e : suc (a + k) ≡ suc a + k = omega arith in e)

take_get : {X : Type 0} (n : ℕ) (xs : List X) (k : ℕ) → k < n → slice_get (take n xs) k ≡ slice_get xs k
take_get zero xs k less = absurd (omega arith)
take_get (suc n) [] k less = refl
take_get (suc n) (x ∷ xs) zero less = refl
take_get (suc n) (x ∷ xs) (suc k) less = take_get n xs k (omega arith)

take_within : {X : Type 0} (n : ℕ) (xs : List X) (k : ℕ) (x : X) → slice_get (take n xs) k ≡ Some x → k < n
take_within zero xs k x at = absurd (none-some x at)
take_within (suc n) [] k x at = absurd (none-some x at)
take_within (suc n) (y ∷ xs) zero x at = omega arith
take_within (suc n) (y ∷ xs) (suc k) x at = let rest = take_within n xs k x at in omega arith

-- what stands in a part stands in the list
pub range_get : {X : Type 0} (xs : List X) (a b k : ℕ) (x : X) → slice_get (slice_range xs a b) k ≡ Some x → (a + k < b) × (slice_get xs (a + k) ≡ Some x)
range_get xs a b k x at =
    let low = take_within (b - a) (drop a xs) k x at in
    (omega arith, sym (take_get (b - a) (drop a xs) k low ∙ drop_get a xs k) ∙ at)

-- and the other way
pub get_range : {X : Type 0} (xs : List X) (a b j : ℕ) (x : X) → a ≤ j → j < b → slice_get xs j ≡ Some x → slice_get (slice_range xs a b) (j - a) ≡ Some x
get_range xs a b j x low high at =
    let back : a + (j - a) ≡ j = omega arith in
    take_get (b - a) (drop a xs) (j - a) (omega arith) ∙ drop_get a xs (j - a) ∙ ap (slice_get xs) back ∙ at

take_map : {X Y : Type 0} (f : X → Y) (n : ℕ) (xs : List X) → take n (map f xs) ≡ map f (take n xs)
take_map f zero xs = refl
take_map f (suc n) [] = refl
take_map f (suc n) (x ∷ xs) = ap (λ ys. f x ∷ ys) (take_map f n xs)

drop_map : {X Y : Type 0} (f : X → Y) (n : ℕ) (xs : List X) → drop n (map f xs) ≡ map f (drop n xs)
drop_map f zero xs = refl
drop_map f (suc n) [] = refl
drop_map f (suc n) (x ∷ xs) = drop_map f n xs

-- a part of an image is the image of the part
pub range_map : {X Y : Type 0} (f : X → Y) (xs : List X) (a b : ℕ) → slice_range (map f xs) a b ≡ map f (slice_range xs a b)
range_map f xs a b = ap (take (b - a)) (drop_map f a xs) ∙ take_map f (b - a) (drop a xs)

-- ---- how many of a list pass a test

step_none : (k a : ℕ) → a ≡ 0 → cond (nat_le (suc k) 0) 1 0 + a ≡ 0
step_none k a is = grind (arith, nat_tests)

step_up : (k p a b c : ℕ) → a ≡ b + c → cond (nat_le (suc k) (suc p)) 1 0 + a ≡ cond (k == p) 1 0 + b + (cond (nat_le (suc k) p) 1 0 + c)
step_up k p a b c is = grind (arith, nat_tests)

step_rise : (k p q a b : ℕ) → p ≤ q → a ≤ b → cond (nat_le (suc k) p) 1 0 + a ≤ cond (nat_le (suc k) q) 1 0 + b
step_rise k p q a b le rest = grind (arith, nat_tests)

pub count_take_le : {X : Type 0} (p : X → Bool) (i : ℕ) (xs : List X) → count_by p (take i xs) ≤ count_by p xs
count_take_le p i xs = sum_by-take-le (λ x. cond (p x) 1 0) xs i

-- before one that passes there are fewer
pub count_take_less : {X : Type 0} (p : X → Bool) (i : ℕ) (xs : List X) (d : X) → i < length xs → p (get_or xs i d) ≡ true → count_by p (take i xs) < count_by p xs
count_take_less p i xs d within passes =
    let more = count_by_more_yes p xs i d within passes in
    let rest = count_take_le p (i + 1) xs in
    omega arith

step_high : (k p a : ℕ) → p ≤ k → a ≡ 0 → cond (nat_le (suc k) p) 1 0 + a ≡ 0
step_high k p a high is = grind (arith, nat_tests)

step_low : (k p a b : ℕ) → k < p → a ≡ b → cond (nat_le (suc k) p) 1 0 + a ≡ suc b
step_low k p a b low is = grind (arith, nat_tests)

-- the part with one key, after one more in front
range_step : {X : Type 0} (x : X) (xs kept : List X) (k p a b : ℕ) → slice_range xs a b ≡ kept → (p ≤ k → a ≡ 0) → (suc p ≤ k → b ≡ 0)
    → slice_range (x ∷ xs) (cond (nat_le (suc k) p) 1 0 + a) (cond (nat_le (suc k) (suc p)) 1 0 + b) ≡ cond (k == p) (x ∷ kept) kept
range_step x xs kept k p a b rest none none_next = ⊎_elim
    (λ same.
    let yes : (k == p) ≡ true = eq-eqb k p same in
    let low : cond (nat_le (suc k) p) 1 0 + a ≡ 0 = step_high k p a (omega arith) (none (omega arith)) in
    let high : cond (nat_le (suc k) (suc p)) 1 0 + b ≡ suc b = step_low k (suc p) b b (omega arith) refl in
    let width : suc b - 0 ≡ suc (b - 0) = omega arith in
    (λ i. slice_range (x ∷ xs) (low i) (high i)) ∙ ap (λ n. take n (x ∷ xs)) width ∙ ap (λ ys. x ∷ ys) (ap (λ n. slice_range xs n b) (sym (none (omega arith))) ∙ rest) ∙ sym (ap (λ t. cond t (x ∷ kept) kept) yes))
    (⊎_elim
    (λ less.
    let no : (k == p) ≡ false = ne_eqb k p (λ same. absurd (omega arith)) in
    let low : cond (nat_le (suc k) p) 1 0 + a ≡ suc a = step_low k p a a less refl in
    let high : cond (nat_le (suc k) (suc p)) 1 0 + b ≡ suc b = step_low k (suc p) b b (omega arith) refl in
    let width : suc b - suc a ≡ b - a = omega arith in
    (λ i. slice_range (x ∷ xs) (low i) (high i)) ∙ ap (λ n. take n (drop a xs)) width ∙ rest ∙ sym (ap (λ t. cond t (x ∷ kept) kept) no))
    (λ more.
    let no : (k == p) ≡ false = ne_eqb k p (λ same. absurd (omega arith)) in
    let low : cond (nat_le (suc k) p) 1 0 + a ≡ 0 = step_high k p a (omega arith) (none (omega arith)) in
    let high : cond (nat_le (suc k) (suc p)) 1 0 + b ≡ 0 = step_high k (suc p) b (omega arith) (none_next (omega arith)) in
    let nothing : kept ≡ [] = sym rest ∙ (λ i. slice_range xs (none (omega arith) i) (none_next (omega arith) i)) in
    (λ i. slice_range (x ∷ xs) (low i) (high i)) ∙ sym nothing ∙ sym (ap (λ t. cond t (x ∷ kept) kept) no)))
    (cases_order k p)

module _ {X : Type 0} (key : X → ℕ) where
  -- none is below 0
  pub below_none : (xs : List X) → count_by (λ x. nat_le (suc (key x)) 0) xs ≡ 0
  below_none [] = refl
  below_none (x ∷ xs) = sum_by-cons (λ y. cond (nat_le (suc (key y)) 0) 1 0) x xs ∙ step_none (key x) _ (below_none xs)

  -- one step higher there are those at the step more
  pub below_more_by : (p : ℕ) (xs : List X) → count_by (λ x. nat_le (suc (key x)) (suc p)) xs ≡ count_by (λ x. key x == p) xs + count_by (λ x. nat_le (suc (key x)) p) xs
  below_more_by p [] = refl
  below_more_by p (x ∷ xs) =
      let rest = below_more_by p xs in
      let a = sum_by-cons (λ y. cond (nat_le (suc (key y)) (suc p)) 1 0) x xs in
      let b = sum_by-cons (λ y. cond (key y == p) 1 0) x xs in
      let c = sum_by-cons (λ y. cond (nat_le (suc (key y)) p) 1 0) x xs in
      a ∙ step_up (key x) p _ _ _ rest ∙ (λ i. sym b i + sym c i)

  -- higher up there are no fewer
  pub below_rises : (p q : ℕ) (xs : List X) → p ≤ q → count_by (λ x. nat_le (suc (key x)) p) xs ≤ count_by (λ x. nat_le (suc (key x)) q) xs
  below_rises p q [] le = omega arith
  below_rises p q (x ∷ xs) le =
      let rest = below_rises p q xs le in
      let a = sum_by-cons (λ y. cond (nat_le (suc (key y)) p) 1 0) x xs in
      let b = sum_by-cons (λ y. cond (nat_le (suc (key y)) q) 1 0) x xs in
      let step = step_rise (key x) p q _ _ le rest in
      subst (λ n. n ≤ count_by (λ y. nat_le (suc (key y)) q) (x ∷ xs)) (sym a) (subst (λ n. cond (nat_le (suc (key x)) p) 1 0 + count_by (λ y. nat_le (suc (key y)) p) xs ≤ n) (sym b) step)

  -- where all are at p or above, none is below it
  pub below_at_least : (p : ℕ) (xs : List X) → ((i : ℕ) (x : X) → slice_get xs i ≡ Some x → p ≤ key x) → count_by (λ x. nat_le (suc (key x)) p) xs ≡ 0
  below_at_least p [] high = refl
  below_at_least p (x ∷ xs) high =
      let here = high 0 x refl in
      sum_by-cons (λ y. cond (nat_le (suc (key y)) p) 1 0) x xs ∙ step_high (key x) p _ here (below_at_least p xs (λ i y at. high (suc i) y at))

  -- where all are below p, all are
  pub below_whole : (p : ℕ) (xs : List X) → ((i : ℕ) (x : X) → slice_get xs i ≡ Some x → key x < p) → count_by (λ x. nat_le (suc (key x)) p) xs ≡ length xs
  below_whole p [] low = refl
  below_whole p (x ∷ xs) low =
      let here = low 0 x refl in
      sum_by-cons (λ y. cond (nat_le (suc (key y)) p) 1 0) x xs ∙ step_low (key x) p _ _ here (below_whole p xs (λ i y at. low (suc i) y at))

  -- one more at p or above it leaves the number of those below p
  pub below_push : (p : ℕ) (xs : List X) (y : X) → p ≤ key y → count_by (λ x. nat_le (suc (key x)) p) (xs ++ y ∷ []) ≡ count_by (λ x. nat_le (suc (key x)) p) xs
  below_push p [] y high = below_at_least p (y ∷ []) (λ i x at. subst (λ z. p ≤ key z) (only_one y i x at) high)
  below_push p (x ∷ xs) y high =
      sum_by-cons (λ z. cond (nat_le (suc (key z)) p) 1 0) x (xs ++ y ∷ []) ∙ ap (λ n. cond (nat_le (suc (key x)) p) 1 0 + n) (below_push p xs y high)
      ∙ sym (sum_by-cons (λ z. cond (nat_le (suc (key z)) p) 1 0) x xs)

  -- in a list whose keys never fall, those of one key stand behind those of lower keys
  pub range_of_key : (p : ℕ) (xs : List X) → ((i j : ℕ) (x y : X) → i < j → slice_get xs i ≡ Some x → slice_get xs j ≡ Some y → key x ≤ key y)
      → slice_range xs (count_by (λ x. nat_le (suc (key x)) p) xs) (count_by (λ x. nat_le (suc (key x)) (suc p)) xs) ≡ filter (λ x. key x == p) xs
  range_of_key p [] rise = refl
  range_of_key p (x ∷ xs) rise =
      let rest = range_of_key p xs (λ i j y z less at_i at_j. rise (suc i) (suc j) y z (omega arith) at_i at_j) in
      let low = sum_by-cons (λ y. cond (nat_le (suc (key y)) p) 1 0) x xs in
      let high = sum_by-cons (λ y. cond (nat_le (suc (key y)) (suc p)) 1 0) x xs in
      let over : (q : ℕ) → q ≤ key x → count_by (λ y. nat_le (suc (key y)) q) xs ≡ 0 = λ q le. below_at_least q xs (λ i y at. (let step = rise 0 (suc i) x y (omega arith) refl at in omega arith)) in
      (λ i. slice_range (x ∷ xs) (low i) (high i)) ∙ range_step x xs (filter (λ y. key y == p) xs) (key x) p _ _ rest (over p) (over (suc p))

-- ---- equal lists

-- functions that agree on a list have one image of it
pub map_same : {X Y : Type 0} (f h : X → Y) (xs : List X) → ((i : ℕ) (x : X) → slice_get xs i ≡ Some x → f x ≡ h x) → map f xs ≡ map h xs
map_same f h [] same = refl
map_same f h (x ∷ xs) same = (λ j. same 0 x refl j ∷ map_same f h xs (λ i y at. same (suc i) y at) j)
