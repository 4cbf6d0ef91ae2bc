-- The value that stands most often: by the runs of a sorted list, in any order, and through a function.
use Rattle.std.proofs.Common.{◌≡◌, ℕ, zero, suc, ◌+◌, ◌<◌, ◌≤◌, ⊎_elim, inl, inr, List, [], ◌∷◌, ◌++◌, Bool, true, cond, ◌==◌, map, length, take, get_or, slice_get, Some, refl, sym, ap, ◌∙◌, subst, arith}
use Rattle.std.specs.Prelude.{IsPermutation, ◌&&◌, ◌⊎◌, nat_le, min}
use Rattle.std.specs.List.{filter, list_all}
use Rattle.std.proofs.lemmas.Bool.{cases_lt, cases_eq, cases_order, eq-eqb, ne_eqb, le-leb, leb-true, and_parts}
use Rattle.std.proofs.lemmas.List.{take_all, length-take}
use Rattle.std.proofs.lemmas.Option.{same_Some, none-some}
use Rattle.std.proofs.lemmas.List.Sums.{sum_by-cons, sum_by-append, sum_by_more, count_by-le-length}
use Rattle.std.proofs.lemmas.List.Sorted.{sum_by-IsPermutation}
use Rattle.graph_model.specs.Labels.{times, is_most_frequent, least_of, least_or, most_frequent}
use Rattle.graph_image.proofs.Lists.{get_map, get_filter, filter_get}
use Rattle.kernel_cdlp.specs.Frequency.{IsMostFrequentOr}

-- ---- how often a value stands

-- a value more
times_cons : (x : ℕ) (xs : List ℕ) (y : ℕ) → times (x ∷ xs) y ≡ cond (x == y) 1 0 + times xs y
times_cons x xs y = sum_by-cons (λ z. cond (z == y) 1 0) x xs

pub times_here : (x : ℕ) (xs : List ℕ) → times (x ∷ xs) x ≡ 1 + times xs x
times_here x xs = times_cons x xs x ∙ ap (λ b. cond b 1 0 + times xs x) (eq-eqb x x refl)

pub times_there : (x : ℕ) (xs : List ℕ) (y : ℕ) → (x ≡ y → ⊥) → times (x ∷ xs) y ≡ times xs y
times_there x xs y other = times_cons x xs y ∙ ap (λ b. cond b 1 0 + times xs y) (ne_eqb x y other) ∙ omega arith

-- the values so far are no fewer
pub times_few : (xs : List ℕ) (i y : ℕ) → times (take i xs) y ≤ i
times_few xs i y =
    let few = count_by-le-length (λ z. z == y) (take i xs) in
    let part = length-take i xs in
    omega arith

-- two values stand no more often than there are places
times_both : (xs : List ℕ) (x y : ℕ) → (x ≡ y → ⊥) → times xs x + times xs y ≤ length xs
times_both [] x y other = omega arith
times_both (z ∷ zs) x y other =
    let rest = times_both zs x y other in
    ⊎_elim
    (λ same. (let h : times (z ∷ zs) x ≡ 1 + times zs x = subst (λ w. times (w ∷ zs) x ≡ 1 + times zs x) (sym same) (times_here x zs) in
    let t = times_there z zs y (λ equal. other (sym same ∙ equal)) in omega arith))
    (λ apart. (let t = times_there z zs x apart in
    ⊎_elim
    (λ same. (let h : times (z ∷ zs) y ≡ 1 + times zs y = subst (λ w. times (w ∷ zs) y ≡ 1 + times zs y) (sym same) (times_here y zs) in omega arith))
    (λ away. (let s = times_there z zs y away in omega arith))
    (cases_eq z y)))
    (cases_eq z x)

-- a value that stands more often than all others together stands most often
pub most_by_far : (default x : ℕ) (xs : List ℕ) → length xs < times xs x + times xs x → IsMostFrequentOr default xs x
most_by_far default x [] far = absurd (omega arith)
most_by_far default x (z ∷ zs) far =
    let xs = z ∷ zs in
    let fewer : (y : ℕ) → (x ≡ y → ⊥) → times xs y < times xs x = λ y other. (let both = times_both xs x y other in omega arith) in
    record {
      stands = omega arith;
      most = λ y. ⊎_elim (λ same. (let e = ap (times xs) same in omega arith)) (λ other. (let less = fewer y other in omega arith)) (cases_eq x y);
      least = λ y equal. ⊎_elim (λ same. omega arith) (λ other. absurd (let less = fewer y other in omega arith)) (cases_eq x y);
    }

-- ---- counting one value

-- one place more
pub times_more : (xs : List ℕ) (i x y : ℕ) → i < length xs → x ≡ get_or xs i 0 → times (take (i + 1) xs) y ≡ times (take i xs) y + cond (x == y) 1 0
times_more xs i x y within is = sum_by_more (λ z. cond (z == y) 1 0) xs i 0 within ∙ ap (λ z. times (take i xs) y + cond (z == y) 1 0) (sym is)

-- ---- runs of a sorted list

-- of the first i values: the last, how often it stands, the one that stands most often, and how often that is
pub record IsCounted (default : ℕ) (xs : List ℕ) (i last run best most : ℕ) : Type 0 where
  pub stood : run ≡ times (take i xs) last
  pub above : (y : ℕ) → last < y → times (take i xs) y ≡ 0
  pub low : (j : ℕ) → i ≤ j → j < length xs → last ≤ get_or xs j 0
  pub highest : (y : ℕ) → times (take i xs) y ≤ most
  pub chosen : 0 < i → (times (take i xs) best ≡ most) × ((y : ℕ) → times (take i xs) y ≡ most → best ≤ y) × (0 < most)
  pub none : i ≡ 0 → (best ≡ default) × (most ≡ 0)

module _ (default : ℕ) (xs : List ℕ) (rising : (i j : ℕ) → i ≤ j → j < length xs → get_or xs i 0 ≤ get_or xs j 0)
    (i last run best most : ℕ) (counted : IsCounted default xs i last run best most) (x : ℕ) (x_is : x ≡ get_or xs i 0) (within : i < length xs) where
  more : (y : ℕ) → times (take (i + 1) xs) y ≡ times (take i xs) y + cond (x == y) 1 0
  more y = sum_by_more (λ z. cond (z == y) 1 0) xs i 0 within ∙ ap (λ z. times (take i xs) y + cond (z == y) 1 0) (sym x_is)

  here : times (take (i + 1) xs) x ≡ times (take i xs) x + 1
  here = more x ∙ ap (λ b. times (take i xs) x + cond b 1 0) (eq-eqb x x refl)

  there : (y : ℕ) → (x ≡ y → ⊥) → times (take (i + 1) xs) y ≡ times (take i xs) y
  there y other = more y ∙ ap (λ b. times (take i xs) y + cond b 1 0) (ne_eqb x y other) ∙ omega arith

  up : last ≤ x
  up = subst (λ z. last ≤ z) (sym x_is) (counted.low i (omega arith) within)

  -- another value than the last hasn't stood yet
  pub fresh : (x ≡ last → ⊥) → 0 ≡ times (take i xs) x
  fresh other = sym (counted.above x (⊎_elim (λ less. less) (λ le. absurd (other (let u = up in omega arith))) (cases_lt last x)))

  -- the same as the last stood as often
  pub again : x ≡ last → run ≡ times (take i xs) x
  again same = counted.stood ∙ ap (times (take i xs)) (sym same)

  module _ (before : ℕ) (before_is : before ≡ times (take i xs) x) where
    run_is : before + 1 ≡ times (take (i + 1) xs) x
    run_is = ap (λ n. n + 1) before_is ∙ sym here

    above_more : (y : ℕ) → x < y → times (take (i + 1) xs) y ≡ 0
    above_more y less = there y (λ same. absurd (omega arith)) ∙ counted.above y (let u = up in omega arith)

    low_more : (j : ℕ) → i + 1 ≤ j → j < length xs → x ≤ get_or xs j 0
    low_more j le below = subst (λ z. z ≤ get_or xs j 0) (sym x_is) (rising i j (omega arith) below)

    -- a longer run is the best
    pub takes : most < before + 1 → IsCounted default xs (i + 1) x (before + 1) x (before + 1)
    takes longer = record {
      stood = run_is;
      above = above_more;
      low = low_more;
      highest = λ y. ⊎_elim
          (λ same. let n = ap (times (take (i + 1) xs)) same in let r = run_is in omega arith)
          (λ other. let n = there y (λ same. other (sym same)) in let m = counted.highest y in omega arith)
          (cases_eq y x);
      chosen = λ some. (
        sym run_is,
        λ y same. ⊎_elim
            (λ equal. omega arith)
            (λ other. absurd (let n = there y (λ equal. other (sym equal)) in let m = counted.highest y in omega arith))
            (cases_eq y x),
        omega arith,
      );
      none = λ same. absurd (omega arith);
    }

    -- else the best stays it
    pub keeps : before + 1 ≤ most → IsCounted default xs (i + 1) x (before + 1) best most
    keeps shorter =
        let some : 0 < i = ⊎_elim (λ less. less) (λ le. absurd (let none = (counted.none (omega arith)).1 in omega arith)) (cases_lt 0 i) in
        let is = counted.chosen some in
        let other : x ≡ best → ⊥ = λ same. (let n = ap (times (take i xs)) same in let m = is.0 in absurd (omega arith)) in
        let stays : times (take (i + 1) xs) best ≡ most = there best other ∙ is.0 in
        let low : best ≤ last = ⊎_elim (λ less. let n = counted.above best less in let m = is.0 in let p = is.2 in absurd (omega arith)) (λ le. le) (cases_lt last best) in
        record {
          stood = run_is;
          above = above_more;
          low = low_more;
          highest = λ y. ⊎_elim
              (λ same. let n = ap (times (take (i + 1) xs)) same in let r = run_is in omega arith)
              (λ apart. let n = there y (λ same. apart (sym same)) in let m = counted.highest y in omega arith)
              (cases_eq y x);
          chosen = λ now. (
            stays,
            λ y same. ⊎_elim
                (λ equal. let u = up in omega arith)
                (λ apart. is.1 y (sym (there y (λ equal. apart (sym equal))) ∙ same))
                (cases_eq y x),
            is.2,
          );
          none = λ same. absurd (omega arith);
        }

  -- one more value is counted
  pub counted_more : (last_later before best_later most_later : ℕ) → last_later ≡ x → before ≡ times (take i xs) x
      → ((most < before + 1) × (best_later ≡ x) × (most_later ≡ before + 1)) ⊎ ((before + 1 ≤ most) × (best_later ≡ best) × (most_later ≡ most))
      → IsCounted default xs (i + 1) last_later (before + 1) best_later most_later
  counted_more last_later before best_later most_later last_is before_is cases =
      subst (λ z. IsCounted default xs (i + 1) z (before + 1) best_later most_later) (sym last_is) (⊎_elim
      (λ longer. subst (λ z. IsCounted default xs (i + 1) x (before + 1) z most_later) (sym longer.1) (subst (λ z. IsCounted default xs (i + 1) x (before + 1) x z) (sym longer.2) (takes before before_is longer.0)))
      (λ shorter. subst (λ z. IsCounted default xs (i + 1) x (before + 1) z most_later) (sym shorter.1) (subst (λ z. IsCounted default xs (i + 1) x (before + 1) best z) (sym shorter.2) (keeps before before_is shorter.0)))
      cases)

-- after all values the best is the one that stands most often
pub counted_all : (default : ℕ) (xs : List ℕ) (last run best most : ℕ) → IsCounted default xs (length xs) last run best most → IsMostFrequentOr default xs best
counted_all default [] last run best most counted = (counted.none refl).0
counted_all default (y ∷ ys) last run best most counted =
    let all : take (length (y ∷ ys)) (y ∷ ys) ≡ y ∷ ys = take_all (length (y ∷ ys)) (y ∷ ys) (omega arith) in
    let same : (z : ℕ) → times (take (length (y ∷ ys)) (y ∷ ys)) z ≡ times (y ∷ ys) z = λ z. ap (λ l. times l z) all in
    let is = counted.chosen (omega arith) in
    let stands : times (y ∷ ys) best ≡ most = sym (same best) ∙ is.0 in
    record {
      stands = let p = is.2 in omega arith;
      most = λ z. let m = counted.highest z in let n = same z in omega arith;
      least = λ z equal. is.1 z (same z ∙ equal ∙ stands);
    }

-- ---- the same values in another order, and twice

-- values that stand as often have the same one
pub same_times : (default x : ℕ) (xs ys : List ℕ) → ((z : ℕ) → times xs z ≡ times ys z) → length xs ≡ length ys → IsMostFrequentOr default ys x → IsMostFrequentOr default xs x
same_times default x [] [] same count is = is
same_times default x [] (y ∷ ys) same count is = absurd (omega arith)
same_times default x (z ∷ xs) [] same count is = absurd (omega arith)
same_times default x (z ∷ xs) (y ∷ ys) same count is =
    let here = same x in
    record {
      stands = let p = is.stands in omega arith;
      most = λ v. let m = is.most v in let n = same v in omega arith;
      least = λ v equal. is.least v (sym (same v) ∙ equal ∙ here);
    }

pub reordered : (default x : ℕ) (xs ys : List ℕ) → IsPermutation xs ys → length ys ≡ length xs → IsMostFrequentOr default ys x → IsMostFrequentOr default xs x
reordered default x xs ys moved count is = same_times default x xs ys (λ z. sym (sum_by-IsPermutation (λ v. cond (v == z) 1 0) xs ys moved)) (sym count) is

-- where each stands twice, the same one stands most often
pub doubled : (default x : ℕ) (xs : List ℕ) → IsMostFrequentOr default xs x → IsMostFrequentOr default (xs ++ xs) x
doubled default x [] is = is
doubled default x (y ∷ ys) is =
    let twice : (z : ℕ) → times ((y ∷ ys) ++ (y ∷ ys)) z ≡ times (y ∷ ys) z + times (y ∷ ys) z = λ z. sum_by-append (λ v. cond (v == z) 1 0) (y ∷ ys) (y ∷ ys) in
    record {
      stands = let p = is.stands in let n = twice x in omega arith;
      most = λ z. let m = is.most z in let n = twice z in let k = twice x in omega arith;
      least = λ z equal. is.least z (let n = twice z in let k = twice x in omega arith);
    }

-- ---- through a function

-- a value that stands is one of the values
pub stands_at : (xs : List ℕ) (y : ℕ) → 0 < times xs y → (i : ℕ) × (slice_get xs i ≡ Some y)
stands_at [] y some = absurd (omega arith)
stands_at (x ∷ xs) y some = ⊎_elim
    (λ same. (0, ap Some same))
    (λ other. let n = times_there x xs y other in let rest = stands_at xs y (omega arith) in (suc rest.0, rest.1))
    (cases_eq x y)

-- under a function that keeps the values apart, each image stands as often as its value
times_map : (f : ℕ → ℕ) (xs : List ℕ) (y : ℕ) → ((i x : ℕ) → slice_get xs i ≡ Some x → f x ≡ f y → x ≡ y) → times (map f xs) (f y) ≡ times xs y
times_map f [] y apart = refl
times_map f (x ∷ xs) y apart =
    let rest = times_map f xs y (λ i z at same. apart (suc i) z at same) in
    ⊎_elim
    (λ same. let n = times_here x xs in let m = times_here (f x) (map f xs) in
    let l : times (map f (x ∷ xs)) (f y) ≡ times (map f (x ∷ xs)) (f x) = ap (λ z. times (map f (x ∷ xs)) (f z)) (sym same) in
    let k : times (x ∷ xs) y ≡ times (x ∷ xs) x = ap (times (x ∷ xs)) (sym same) in
    let j : times (map f xs) (f y) ≡ times (map f xs) (f x) = ap (λ z. times (map f xs) (f z)) (sym same) in
    let h : times xs y ≡ times xs x = ap (times xs) (sym same) in
    omega arith)
    (λ other. times_there (f x) (map f xs) (f y) (λ same. other (apart 0 x refl same)) ∙ rest ∙ sym (times_there x xs y other))
    (cases_eq x y)

-- where a function rises, the image of the value that stands most often is the one that does
pub risen : (f : ℕ → ℕ) (n : ℕ) → ((x y : ℕ) → x < y → y < n → f x < f y) → (default x : ℕ) (xs : List ℕ) → ((i y : ℕ) → slice_get xs i ≡ Some y → y < n)
    → IsMostFrequentOr default xs x → IsMostFrequentOr (f default) (map f xs) (f x)
risen f n rise default x [] below is = ap f is
risen f n rise default x (z ∷ zs) below is =
    let xs = z ∷ zs in
    let at = stands_at xs x is.stands in
    let x_below : x < n = below at.0 x at.1 in
    let apart : (u v : ℕ) → u < n → v < n → f u ≡ f v → u ≡ v = λ u v u_below v_below same. ⊎_elim (λ equal. equal) (⊎_elim (λ less. let r = rise u v less v_below in absurd (omega arith)) (λ greater. let r = rise v u greater u_below in absurd (omega arith))) (cases_order u v) in
    let image : (v : ℕ) → v < n → times (map f xs) (f v) ≡ times xs v = λ v v_below. times_map f xs v (λ i u there same. apart u v (below i u there) v_below same) in
    let here = image x x_below in
    record {
      stands = let p = is.stands in omega arith;
      most = λ w. ⊎_elim
          (λ some. let there = stands_at (map f xs) w some in let of = get_map f xs there.0 w there.1 in
          let same = ap (times (map f xs)) of.2 in let k = image of.0 (below there.0 of.0 of.1) in let m = is.most of.0 in omega arith)
          (λ none. omega arith)
          (cases_lt 0 (times (map f xs) w));
      least = λ w equal.
          let there = stands_at (map f xs) w (let p = is.stands in omega arith) in
          let of = get_map f xs there.0 w there.1 in
          let of_below = below there.0 of.0 of.1 in
          let same = ap (times (map f xs)) of.2 in
          let k = image of.0 of_below in
          let low : x ≤ of.0 = is.least of.0 (omega arith) in
          let to : f of.0 ≡ w = of.2 in
          ⊎_elim (λ less. let r = rise x of.0 less of_below in omega arith) (λ le. let even : x ≡ of.0 = omega arith in let e = ap f even in omega arith) (cases_lt x of.0);
    }

-- ---- the definition

least_is : (x y : ℕ) (ys : List ℕ) → x ≤ y → ((k z : ℕ) → slice_get ys k ≡ Some z → x ≤ z) → ((y ≡ x) ⊎ ((k : ℕ) × (slice_get ys k ≡ Some x))) → least_of y ys ≡ x
least_is x y [] le low member = ⊎_elim (λ same. same) (λ at. absurd (none-some x at.1)) member
least_is x y (w ∷ ws) le low member = least_is x (min y w) ws (let here = low 0 w refl in omega arith) (λ k z at. low (suc k) z at) (member_min x y w ws le (low 0 w refl) member)
  where
    in_rest : (x y w : ℕ) (ws : List ℕ) → x ≤ y → (k : ℕ) → slice_get (w ∷ ws) k ≡ Some x → (min y w ≡ x) ⊎ ((j : ℕ) × (slice_get ws j ≡ Some x))
    in_rest x y w ws le zero at = let same = same_Some w x at in inl (omega arith)
    in_rest x y w ws le (suc k) at = inr (k, at)

    member_min : (x y w : ℕ) (ws : List ℕ) → x ≤ y → x ≤ w → ((y ≡ x) ⊎ ((k : ℕ) × (slice_get (w ∷ ws) k ≡ Some x))) → (min y w ≡ x) ⊎ ((k : ℕ) × (slice_get ws k ≡ Some x))
    member_min x y w ws le low member = ⊎_elim (λ same. inl (omega arith)) (λ at. in_rest x y w ws le at.0 at.1) member

-- the least of the values is one of them that no other is below
least_or_is : (default x : ℕ) (xs : List ℕ) (k : ℕ) → slice_get xs k ≡ Some x → ((j y : ℕ) → slice_get xs j ≡ Some y → x ≤ y) → least_or default xs ≡ x
least_or_is default x [] k at low = absurd (none-some x at)
least_or_is default x (z ∷ zs) zero at low = let same = same_Some z x at in least_is x z zs (low 0 z refl) (λ j y there. low (suc j) y there) (inl same)
least_or_is default x (z ∷ zs) (suc k) at low = least_is x z zs (low 0 z refl) (λ j y there. low (suc j) y there) (inr (k, at))

all_pass : (p : ℕ → Bool) (xs : List ℕ) → ((y : ℕ) → p y ≡ true) → list_all p xs ≡ true
all_pass p [] pass = refl
all_pass p (x ∷ xs) pass = (λ i. pass x i && all_pass p xs pass i)

passes_at : (p : ℕ → Bool) (xs : List ℕ) (k y : ℕ) → list_all p xs ≡ true → slice_get xs k ≡ Some y → p y ≡ true
passes_at p [] k y all at = absurd (none-some y at)
passes_at p (x ∷ xs) zero y all at = ap p (sym (same_Some x y at)) ∙ (and_parts (p x) (list_all p xs) all).0
passes_at p (x ∷ xs) (suc k) y all at = passes_at p xs k y (and_parts (p x) (list_all p xs) all).1 at

-- the value that stands most often is the one of the definition
pub is_most_frequent_of : (default x : ℕ) (xs : List ℕ) → IsMostFrequentOr default xs x → most_frequent default xs ≡ x
is_most_frequent_of default x [] is = sym is
is_most_frequent_of default x (z ∷ zs) is =
    let xs = z ∷ zs in
    let at = stands_at xs x is.stands in
    let passes : is_most_frequent xs x ≡ true = all_pass (λ y. nat_le (times xs y) (times xs x)) xs (λ y. le-leb (times xs y) (times xs x) (is.most y)) in
    let left = filter_get (is_most_frequent xs) xs at.0 x at.1 passes in
    least_or_is default x (filter (is_most_frequent xs) xs) left.0 left.1 (λ j y there.
    let kept = get_filter (is_most_frequent xs) xs j y there in
    let no_fewer : times xs x ≤ times xs y = leb-true (times xs x) (times xs y) (passes_at (λ w. nat_le (times xs w) (times xs y)) xs at.0 x kept.passes at.1) in
    let no_more = is.most y in
    is.least y (omega arith))
