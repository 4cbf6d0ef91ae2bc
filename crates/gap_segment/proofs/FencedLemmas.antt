-- Sorted rows: what stands where, and what stays sorted.
use Rattle.std.proofs.Common.{◌≡◌, ◌≢◌, ◌⊎◌, inl, inr, ℕ, zero, suc, ◌+◌, ◌-◌, ◌*◌, ◌/◌, ◌<◌, ◌≤◌, List, [], ◌∷◌, ◌++◌, length, take, drop, get_or, set, refl, sym, ◌∙◌, ap, arith}
use Rattle.std.specs.Prelude.{Bool, true, false, ◌&&◌, not, cond, insert, remove, slice_get, Some}
use Rattle.std.specs.List.{filter, AllByRecursion}
use Rattle.std.proofs.lemmas.List.{take-append-drop, drop-drop}
use Rattle.std.proofs.lemmas.List.Elements.{filter-append}
use Rattle.graph_model.specs.declared.row.Key.{Key}
use Rattle.graph_model.specs.declared.row.Row.{Row}
use Rattle.graph_model.specs.Rows.{is_below, is_between}
use Rattle.graph_model.proofs.PlaceLemmas.{drop_cut}
use Rattle.gap_segment.specs.Fenced.{FencedRows, AreBelow, AreNotBelow, AreAbove, AreSorted, AreWithin, AreFenced, IsPlaceOf, IsGapFor, rows_between, with_weight, first_key_or}
use Rattle.graph_model.proofs.KeyLemmas.{below_chain, below_flip, below_self, below_up, upto_chain, above_of_not, not_below_chain, between_parts, between_of}

-- ---- what holds of all rows of a list

module _ {X : Type 0} where
  pub all_map : (P Q : X → Type 0) → ((x : X) → P x → Q x) → (xs : List X) → AllByRecursion P xs → AllByRecursion Q xs
  all_map P Q f [] h = tt
  all_map P Q f (x ∷ xs) h = (f x h.0, all_map P Q f xs h.1)

  pub all_both : (P Q R : X → Type 0) → ((x : X) → P x → Q x → R x) → (xs : List X) → AllByRecursion P xs → AllByRecursion Q xs → AllByRecursion R xs
  all_both P Q R f [] h k = tt
  all_both P Q R f (x ∷ xs) h k = (f x h.0 k.0, all_both P Q R f xs h.1 k.1)

  pub all_take : (P : X → Type 0) (n : ℕ) (xs : List X) → AllByRecursion P xs → AllByRecursion P (take n xs)
  all_take P zero xs h = tt
  all_take P (suc n) [] h = tt
  all_take P (suc n) (x ∷ xs) h = (h.0, all_take P n xs h.1)

  pub all_drop : (P : X → Type 0) (n : ℕ) (xs : List X) → AllByRecursion P xs → AllByRecursion P (drop n xs)
  all_drop P zero xs h = h
  all_drop P (suc n) [] h = tt
  all_drop P (suc n) (x ∷ xs) h = all_drop P n xs h.1

  pub all_middle : (P : X → Type 0) (a b : ℕ) (xs : List X) → AllByRecursion P (take b xs) → AllByRecursion P (take (b - a) (drop a xs))
  all_middle P zero b xs h = let e : b - 0 ≡ b = omega arith in rw e h
  all_middle P (suc a) zero xs h = let e : 0 - suc a ≡ 0 = omega arith in rw e tt
  all_middle P (suc a) (suc b) [] h = all_take P (suc b - suc a) [] tt
  all_middle P (suc a) (suc b) (x ∷ xs) h = let e : suc b - suc a ≡ b - a = omega arith in rw e (all_middle P a b xs h.1)

  pub all_append : (P : X → Type 0) (xs ys : List X) → AllByRecursion P xs → AllByRecursion P ys → AllByRecursion P (xs ++ ys)
  all_append P [] ys h k = k
  all_append P (x ∷ xs) ys h k = (h.0, all_append P xs ys h.1 k)

  pub all_insert : (P : X → Type 0) (xs : List X) (i : ℕ) (x : X) → AllByRecursion P xs → P x → AllByRecursion P (insert xs i x)
  all_insert P xs i x h p = all_append P (take i xs) (x ∷ drop i xs) (all_take P i xs h) (p, all_drop P i xs h)

  pub all_remove : (P : X → Type 0) (xs : List X) (i : ℕ) → AllByRecursion P xs → AllByRecursion P (remove xs i)
  all_remove P xs i h = all_append P (take i xs) (drop (suc i) xs) (all_take P i xs h) (all_drop P (suc i) xs h)

  pub all_at : (P : X → Type 0) (xs : List X) (i : ℕ) (d : X) → AllByRecursion P xs → i < length xs → P (get_or xs i d)
  all_at P [] i d h lt = absurd (omega arith)
  all_at P (x ∷ xs) zero d h lt = h.0
  all_at P (x ∷ xs) (suc i) d h lt = all_at P xs i d h.1 (omega arith)

  -- what is looked up by its place
  pub get_there : (xs : List X) (i : ℕ) (d : X) → i < length xs → slice_get xs i ≡ Some (get_or xs i d)
  get_there [] i d lt = absurd (omega arith)
  get_there (x ∷ xs) zero d lt = refl
  get_there (x ∷ xs) (suc i) d lt = get_there xs i d (omega arith)

  filter_none : (p : X → Bool) (xs : List X) → AllByRecursion (λ x. p x ≡ false) xs → filter p xs ≡ []
  filter_none p [] h = refl
  filter_none p (x ∷ xs) h = ap (λ t. cond t (x ∷ filter p xs) (filter p xs)) h.0 ∙ filter_none p xs h.1

  filter_all : (p : X → Bool) (xs : List X) → AllByRecursion (λ x. p x ≡ true) xs → filter p xs ≡ xs
  filter_all p [] h = refl
  filter_all p (x ∷ xs) h = ap (λ t. cond t (x ∷ filter p xs) (filter p xs)) h.0 ∙ ap (λ ys. x ∷ ys) (filter_all p xs h.1)

  -- those that pass a test stand between two places
  filter_middle : (p : X → Bool) (xs : List X) (a n : ℕ) → AllByRecursion (λ x. p x ≡ false) (take a xs) → AllByRecursion (λ x. p x ≡ true) (take n (drop a xs)) → AllByRecursion (λ x. p x ≡ false) (drop (a + n) xs) → filter p xs ≡ take n (drop a xs)
  filter_middle p xs a n none all rest =
      ap (filter p) (sym (take-append-drop a xs)) ∙ filter-append p (take a xs) (drop a xs)
      ∙ ap (λ ys. ys ++ filter p (drop a xs)) (filter_none p (take a xs) none)
      ∙ ap (filter p) (drop_cut a n xs) ∙ filter-append p (take n (drop a xs)) (drop (a + n) xs)
      ∙ (λ i. filter_all p (take n (drop a xs)) all i ++ filter_none p (drop (a + n) xs) rest i)
      ∙ append_none (take n (drop a xs))
    where
      append_none : (ys : List X) → ys ++ [] ≡ ys
      append_none [] = refl
      append_none (y ∷ ys) = ap (λ zs. y ∷ zs) (append_none ys)

-- ---- looking up by quarters

-- how many rows at the front are below the key
abbrev pub front_count : Key → List Row → ℕ
front_count key [] = 0
front_count key (r ∷ rs) = cond (is_below r.key key) (suc (front_count key rs)) 0

-- in sorted rows, a row below the key is among them
front_below : (key : Key) (rows : List Row) (i : ℕ) (d : Row) → AreSorted rows → i < length rows → is_below (get_or rows i d).key key ≡ true → i < front_count key rows
front_below key [] i d sorted lt h = absurd (omega arith)
front_below key (r ∷ rs) zero d sorted lt h = rw h (omega arith)
front_below key (r ∷ rs) (suc i) d sorted lt h =
    let low : i < length rs = omega arith in
    let more = front_below key rs i d sorted.1 low h in
    rw (below_chain r.key (get_or rs i d).key key (all_at _ rs i d sorted.0 low) h) (omega (arith, more))

-- and one that isn't below it is not
behind_front : (key : Key) (rows : List Row) (i : ℕ) (d : Row) → AreSorted rows → i < length rows → is_below (get_or rows i d).key key ≡ false → front_count key rows ≤ i
behind_front key [] i d sorted lt h = absurd (omega arith)
behind_front key (r ∷ rs) zero d sorted lt h = rw h (omega arith)
behind_front key (r ∷ rs) (suc i) d sorted lt h =
    let more = behind_front key rs i d sorted.1 (omega arith) h in
    elim (is_below r.key key) as (λ t. cond t (suc (front_count key rs)) 0 ≤ suc i) [ true ↦ omega (arith, more) | false ↦ omega arith ]

-- so the key's place is behind them
pub front_is_place : (key : Key) (rows : List Row) → AreSorted rows → IsPlaceOf rows key (front_count key rows)
front_is_place key [] sorted = record { within = omega arith; before = tt; behind = tt }
front_is_place key (r ∷ rs) sorted =
    elim (is_below r.key key) as (λ t. is_below r.key key ≡ t → IsPlaceOf (r ∷ rs) key (cond t (suc (front_count key rs)) 0)) [
      | true ↦ λ h. (let rest = front_is_place key rs sorted.1 in record { within = omega (arith, rest.within); before = (h, rest.before); behind = rest.behind })
      | false ↦ λ h. record {
        within = omega arith;
        before = tt;
        behind = (h, all_map (λ q. is_below r.key q.key ≡ true) (λ q. is_below q.key key ≡ false) (λ q above. not_below_chain r.key q.key key h above) rs sorted.0);
      }
    ] refl

-- what a look at a row tells of the place: it is behind the row, or not
abbrev pub Tells : List Row → Key → ℕ → ℕ → Type 0
Tells rows key i one = ((one ≡ 1) × (i < front_count key rows)) ⊎ ((one ≡ 0) × (front_count key rows ≤ i))

pub tells : (rows : List Row) (key : Key) (i one : ℕ) (d : Row) → AreSorted rows → i < length rows → one ≡ cond (is_below (get_or rows i d).key key) 1 0 → Tells rows key i one
tells rows key i one d sorted lt is =
    elim (is_below (get_or rows i d).key key) as (λ t. is_below (get_or rows i d).key key ≡ t → one ≡ cond t 1 0 → Tells rows key i one) [
      | true ↦ λ h e. inl (e, front_below key rows i d sorted lt h)
      | false ↦ λ h e. inr (e, behind_front key rows i d sorted lt h)
    ] refl is

-- the place is this one, or up to so many behind it
pub record IsNarrowed (rows : List Row) (key : Key) (place count : ℕ) : Type 0 where
  pub within : place + count ≤ length rows
  pub low : place ≤ front_count key rows
  pub high : front_count key rows ≤ place + count

pub narrowed_start : (rows : List Row) (key : Key) → AreSorted rows → IsNarrowed rows key 0 (length rows)
narrowed_start rows key sorted = let is = front_is_place key rows sorted in record { within = omega arith; low = omega arith; high = omega (arith, is.within) }

-- three looks leave one quarter, and what is over
pub narrowed_quarter : (rows : List Row) (key : Key) (place count first second third : ℕ) (d e f : Row) → AreSorted rows → IsNarrowed rows key place count → 4 ≤ count
    → first ≡ cond (is_below (get_or rows (place + count / 4 - 1) d).key key) 1 0
    → second ≡ cond (is_below (get_or rows (place + 2 * (count / 4) - 1) e).key key) 1 0
    → third ≡ cond (is_below (get_or rows (place + 3 * (count / 4) - 1) f).key key) 1 0
    → IsNarrowed rows key (place + (first + second + third) * (count / 4)) (count - 3 * (count / 4))
narrowed_quarter rows key place count first second third d e f sorted h four one two three =
    by_looks
    (tells rows key (place + count / 4 - 1) first d sorted (omega (arith, h.within)) one)
    (tells rows key (place + 2 * (count / 4) - 1) second e sorted (omega (arith, h.within)) two)
    (tells rows key (place + 3 * (count / 4) - 1) third f sorted (omega (arith, h.within)) three)
  where
    to : (k : ℕ) → first + second + third ≡ k → place + k * (count / 4) + (count - 3 * (count / 4)) ≤ length rows → place + k * (count / 4) ≤ front_count key rows
        → front_count key rows ≤ place + k * (count / 4) + (count - 3 * (count / 4)) → IsNarrowed rows key (place + (first + second + third) * (count / 4)) (count - 3 * (count / 4))
    to k e within low high = rw e (record { within = within; low = low; high = high })

    by_looks : Tells rows key (place + count / 4 - 1) first → Tells rows key (place + 2 * (count / 4) - 1) second → Tells rows key (place + 3 * (count / 4) - 1) third
        → IsNarrowed rows key (place + (first + second + third) * (count / 4)) (count - 3 * (count / 4))
    by_looks (inl a) (inl b) (inl c) = to 3 (omega (arith, a.0, b.0, c.0)) (omega (arith, h.within)) (omega (arith, c.1)) (omega (arith, h.high))
    by_looks (inl a) (inl b) (inr c) = to 2 (omega (arith, a.0, b.0, c.0)) (omega (arith, h.within)) (omega (arith, b.1)) (omega (arith, c.1))
    by_looks (inl a) (inr b) (inr c) = to 1 (omega (arith, a.0, b.0, c.0)) (omega (arith, h.within)) (omega (arith, a.1)) (omega (arith, b.1))
    by_looks (inr a) (inr b) (inr c) = to 0 (omega (arith, a.0, b.0, c.0)) (omega (arith, h.within)) (omega (arith, h.low)) (omega (arith, a.1))
    by_looks (inl a) (inr b) (inl c) = absurd (omega (arith, b.1, c.1))
    by_looks (inr a) (inl b) c = absurd (omega (arith, a.1, b.1))
    by_looks (inr a) (inr b) (inl c) = absurd (omega (arith, b.1, c.1))

-- of the rows before this one so many are below the key
pub record IsCounted (rows : List Row) (key : Key) (i found : ℕ) : Type 0 where
  pub below : i ≤ front_count key rows → found ≡ i
  pub behind : front_count key rows ≤ i → found ≡ front_count key rows

pub counted_on : (rows : List Row) (key : Key) (i found one : ℕ) → IsCounted rows key i found → Tells rows key i one → IsCounted rows key (i + 1) (found + one)
counted_on rows key i found one h (inl a) =
    let same = h.below (omega (arith, a.1)) in
    record { below = λ le. omega (arith, a.0, same); behind = λ le. omega (arith, a.0, a.1, same, le) }
counted_on rows key i found one h (inr a) =
    let same = h.behind a.1 in
    record { below = λ le. absurd (omega (arith, a.1, le)); behind = λ le. omega (arith, a.0, same) }

-- where the first row isn't below the key, none is
pub none_below : (rows : List Row) (key : Key) (d : Row) → AreSorted rows → 0 < length rows → is_below (get_or rows 0 d).key key ≡ false → IsPlaceOf rows key 0
none_below rows key d sorted lt h =
    let none : 0 ≡ front_count key rows = omega (arith, behind_front key rows 0 d sorted lt h) in
    rw none (front_is_place key rows sorted)

-- where the last row is below the key, all are
pub all_below : (rows : List Row) (key : Key) (d : Row) (last : ℕ) → AreSorted rows → suc last ≡ length rows → is_below (get_or rows last d).key key ≡ true → IsPlaceOf rows key (length rows)
all_below rows key d last sorted e h =
    let is = front_is_place key rows sorted in
    let all : length rows ≡ front_count key rows = omega (arith, is.within, front_below key rows last d sorted (omega arith) h) in
    rw all is

-- a row that stands where the key would isn't the key's, so all behind are above it
pub gap_of_place : (rows : List Row) (key : Key) (place : ℕ) → AreSorted rows → IsPlaceOf rows key place → ((d : Row) → place < length rows → (get_or rows place d).key ≢ key) → IsGapFor rows key place
gap_of_place rows key place sorted is other = record { within = is.within; before = is.before; behind = behind_of rows place sorted is.behind other }
  where
    behind_of : (rs : List Row) (i : ℕ) → AreSorted rs → AreNotBelow key (drop i rs) → ((d : Row) → i < length rs → (get_or rs i d).key ≢ key) → AreAbove key (drop i rs)
    behind_of [] zero s h o = tt
    behind_of [] (suc i) s h o = tt
    behind_of (r ∷ rs) (suc i) s h o = behind_of rs i s.1 h (λ d lt. o d (omega arith))
    behind_of (r ∷ rs) zero s h o =
        let here : is_below key r.key ≡ true = above_of_not r.key key h.0 (λ e. absurd (o r (omega arith) e)) in
        (here, all_map (λ q. is_below r.key q.key ≡ true) (λ q. is_below key q.key ≡ true) (λ q above. below_chain key r.key q.key here above) rs s.0)

-- where a row is below the key, so are those before it
pub take_below : (key : Key) (rows : List Row) (i : ℕ) (d : Row) → AreSorted rows → i < length rows → is_below (get_or rows i d).key key ≡ true → AreBelow key (take (suc i) rows)
take_below key [] i d sorted lt h = absurd (omega arith)
take_below key (r ∷ rs) zero d sorted lt h = (h, tt)
take_below key (r ∷ rs) (suc i) d sorted lt h =
    let low : i < length rs = omega arith in
    (below_chain r.key (get_or rs i d).key key (all_at _ rs i d sorted.0 low) h, take_below key rs i d sorted.1 low h)

-- and where it is above the key, so are those behind it
pub drop_above : (key : Key) (rows : List Row) (i : ℕ) (d : Row) → AreSorted rows → i < length rows → is_below key (get_or rows i d).key ≡ true → AreAbove key (drop i rows)
drop_above key [] i d sorted lt h = absurd (omega arith)
drop_above key (r ∷ rs) zero d sorted lt h = (h, all_map (λ q. is_below r.key q.key ≡ true) (λ q. is_below key q.key ≡ true) (λ q above. below_chain key r.key q.key h above) rs sorted.0)
drop_above key (r ∷ rs) (suc i) d sorted lt h = drop_above key rs i d sorted.1 (omega arith) h

-- ---- the rows of a key range

-- they stand between the places of both keys
pub between_places : (rows : List Row) (from until : Key) (a b : ℕ) → IsPlaceOf rows from a → IsPlaceOf rows until b → take (b - a) (drop a rows) ≡ rows_between from until rows
between_places rows from until a b first last =
    sym (filter_middle (λ r. is_between from until r.key) rows a (b - a) none all rest)
  where
    none : AllByRecursion (λ r. is_between from until r.key ≡ false) (take a rows)
    none = all_map (λ r. is_below r.key from ≡ true) (λ r. is_between from until r.key ≡ false) (λ r h. λ i. not (h i) && is_below r.key until) (take a rows) first.before

    outside : (r : Row) → is_below r.key until ≡ false → is_between from until r.key ≡ false
    outside r h = ap (λ t. not (is_below r.key from) && t) h ∙ never (not (is_below r.key from))
      where
        never : (t : Bool) → (t && false) ≡ false
        never true = refl
        never false = refl

    rest : AllByRecursion (λ r. is_between from until r.key ≡ false) (drop (a + (b - a)) rows)
    rest =
        let e : a + (b - a) ≡ b + (a - b) = omega arith in
        rw e (rw (← drop-drop (a - b) b rows) (all_map (λ r. is_below r.key until ≡ false) (λ r. is_between from until r.key ≡ false) outside (drop (a - b) (drop b rows)) (all_drop _ (a - b) (drop b rows) last.behind)))

    all : AllByRecursion (λ r. is_between from until r.key ≡ true) (take (b - a) (drop a rows))
    all = all_both (λ r. is_below r.key from ≡ false) (λ r. is_below r.key until ≡ true) (λ r. is_between from until r.key ≡ true) (λ r p q. between_of from until r.key p q) (take (b - a) (drop a rows))
        (all_take _ (b - a) (drop a rows) first.behind) (all_middle _ a b rows last.before)

-- ---- what stays sorted

pub sorted_insert : (rows : List Row) (place : ℕ) (row : Row) → AreSorted rows → IsGapFor rows row.key place → AreSorted (insert rows place row)
sorted_insert rows place row sorted gap = go rows place sorted gap.before gap.behind
  where
    go : (rs : List Row) (i : ℕ) → AreSorted rs → AreBelow row.key (take i rs) → AreAbove row.key (drop i rs) → AreSorted (insert rs i row)
    go rs zero s b a = (a, s)
    go [] (suc i) s b a = (tt, tt)
    go (r ∷ rs) (suc i) s b a = (all_insert _ rs i row s.0 b.0, go rs i s.1 b.1 a)

pub sorted_take : (n : ℕ) (rows : List Row) → AreSorted rows → AreSorted (take n rows)
sorted_take zero rows h = tt
sorted_take (suc n) [] h = tt
sorted_take (suc n) (r ∷ rs) h = (all_take _ n rs h.0, sorted_take n rs h.1)

pub sorted_drop : (n : ℕ) (rows : List Row) → AreSorted rows → AreSorted (drop n rows)
sorted_drop zero rows h = h
sorted_drop (suc n) [] h = tt
sorted_drop (suc n) (r ∷ rs) h = sorted_drop n rs h.1

pub sorted_remove : (rows : List Row) (place : ℕ) → AreSorted rows → AreSorted (remove rows place)
sorted_remove [] zero h = tt
sorted_remove [] (suc i) h = tt
sorted_remove (r ∷ rs) zero h = h.1
sorted_remove (r ∷ rs) (suc i) h = (all_remove _ rs i h.0, sorted_remove rs i h.1)

-- rows below a key before rows that aren't
pub sorted_append : (low cut high : Key) (xs ys : List Row) → AreSorted xs → AreSorted ys → AreWithin low cut xs → AreWithin cut high ys → AreSorted (xs ++ ys)
sorted_append low cut high [] ys s t p q = t
sorted_append low cut high (x ∷ xs) ys s t p q =
    let below : is_below x.key cut ≡ true = (between_parts low cut x.key p.0).1 in
    let step : (y : Row) → is_between cut high y.key ≡ true → is_below x.key y.key ≡ true = λ y w. below_up x.key cut y.key below (between_parts cut high y.key w).0 in
    (all_append _ xs ys s.0 (all_map (λ y. is_between cut high y.key ≡ true) (λ y. is_below x.key y.key ≡ true) step ys q), sorted_append low cut high xs ys s.1 t p.1 q)

-- ---- weights

pub with_weight-set : (rows : List Row) (place weight : ℕ) (row : Row) → place < length rows → row ≡ get_or rows place row → with_weight rows place weight ≡ set rows place (record { key = row.key; weight = weight })
with_weight-set [] place weight row lt e = refl
with_weight-set (r ∷ rs) zero weight row lt e = ap (λ (q : Row). record { key = q.key; weight = weight } ∷ rs) (sym e)
with_weight-set (r ∷ rs) (suc place) weight row lt e = ap (λ qs. r ∷ qs) (with_weight-set rs place weight row (omega arith) e)

all_weight : (P : Key → Type 0) (rows : List Row) (place weight : ℕ) → AllByRecursion (λ r. P r.key) rows → AllByRecursion (λ r. P r.key) (with_weight rows place weight)
all_weight P [] place weight h = tt
all_weight P (r ∷ rs) zero weight h = h
all_weight P (r ∷ rs) (suc place) weight h = (h.0, all_weight P rs place weight h.1)

sorted_weight : (rows : List Row) (place weight : ℕ) → AreSorted rows → AreSorted (with_weight rows place weight)
sorted_weight [] place weight h = tt
sorted_weight (r ∷ rs) zero weight h = h
sorted_weight (r ∷ rs) (suc place) weight h = (all_weight (λ k. is_below r.key k ≡ true) rs place weight h.0, sorted_weight rs place weight h.1)

-- ---- what stays fenced

pub fenced_insert : (s : FencedRows) (place : ℕ) (row : Row) → AreFenced s → IsGapFor s.rows row.key place → is_between s.low s.high row.key ≡ true → AreFenced (record s { rows = insert s.rows place row })
fenced_insert s place row h gap w = record { fences = h.fences; sorted = sorted_insert s.rows place row h.sorted gap; within = all_insert _ s.rows place row h.within w }

pub fenced_remove : (s : FencedRows) (place : ℕ) → AreFenced s → AreFenced (record s { rows = remove s.rows place })
fenced_remove s place h = record { fences = h.fences; sorted = sorted_remove s.rows place h.sorted; within = all_remove _ s.rows place h.within }

pub fenced_weight : (s : FencedRows) (place weight : ℕ) → AreFenced s → AreFenced (record s { rows = with_weight s.rows place weight })
fenced_weight s place weight h = record { fences = h.fences; sorted = sorted_weight s.rows place weight h.sorted; within = all_weight (λ k. is_between s.low s.high k ≡ true) s.rows place weight h.within }

pub fenced_append : (s t : FencedRows) → AreFenced s → AreFenced t → s.high ≡ t.low → AreFenced (record { low = s.low; high = t.high; rows = s.rows ++ t.rows })
fenced_append s t h k meet =
    let within : AreWithin t.low t.high t.rows = k.within in
    let cut : AreWithin s.high t.high t.rows = rw meet within in
    let order : is_below t.high s.high ≡ false = rw meet k.fences in
    record {
      fences = upto_chain s.low s.high t.high h.fences order;
      sorted = sorted_append s.low s.high t.high s.rows t.rows h.sorted k.sorted h.within cut;
      within = all_append _ s.rows t.rows
          (all_map (λ r. is_between s.low s.high r.key ≡ true) (λ r. is_between s.low t.high r.key ≡ true) (λ r w. up s.low s.high t.high r.key order w) s.rows h.within)
          (all_map (λ r. is_between s.high t.high r.key ≡ true) (λ r. is_between s.low t.high r.key ≡ true) (λ r w. down s.low s.high t.high r.key h.fences w) t.rows cut);
    }
  where
    up : (a b c k : Key) → is_below c b ≡ false → is_between a b k ≡ true → is_between a c k ≡ true
    up a b c k cb w = let p = between_parts a b k w in between_of a c k p.0 (below_up k b c p.1 cb)

    down : (a b c k : Key) → is_below b a ≡ false → is_between b c k ≡ true → is_between a c k ≡ true
    down a b c k ba w = let p = between_parts b c k w in between_of a c k (upto_chain a b k ba p.0) p.1

-- the key of the first row from a place on lies between the fences, and so does the high fence key
cut_within : (s : FencedRows) (place : ℕ) (cut : Key) → AreFenced s → cut ≡ first_key_or (drop place s.rows) s.high → (is_below s.high cut ≡ false) × (is_below cut s.low ≡ false)
cut_within s place cut h e = rw e (go (drop place s.rows) (all_drop _ place s.rows h.within))
  where
    go : (rs : List Row) → AreWithin s.low s.high rs → (is_below s.high (first_key_or rs s.high) ≡ false) × (is_below (first_key_or rs s.high) s.low ≡ false)
    go [] w = (below_self s.high, h.fences)
    go (r ∷ rs) w = let p = between_parts s.low s.high r.key w.0 in (below_flip r.key s.high p.1, p.0)

-- the rows before a place, below the key of the first one behind it
pub fenced_front : (s : FencedRows) (place : ℕ) (cut : Key) → AreFenced s → cut ≡ first_key_or (drop place s.rows) s.high → AreFenced (record { low = s.low; high = cut; rows = take place s.rows })
fenced_front s place cut h e = record {
  fences = (cut_within s place cut h e).1;
  sorted = sorted_take place s.rows h.sorted;
  within = rw e (front s.rows place h.sorted h.within);
}
  where
    front : (rs : List Row) (i : ℕ) → AreSorted rs → AreWithin s.low s.high rs → AreWithin s.low (first_key_or (drop i rs) s.high) (take i rs)
    front rs zero o w = tt
    front [] (suc i) o w = tt
    front (r ∷ rs) (suc i) o w =
        let p = between_parts s.low s.high r.key w.0 in
        (between_of s.low (first_key_or (drop i rs) s.high) r.key p.0 (first_above (drop i rs) r.key (all_drop _ i rs o.0) p.1), front rs i o.1 w.1)
      where
        first_above : (qs : List Row) (k : Key) → AreAbove k qs → is_below k s.high ≡ true → is_below k (first_key_or qs s.high) ≡ true
        first_above [] k a b = b
        first_above (q ∷ qs) k a b = a.0

-- and the rows from a place on, from the key of their first one on
pub fenced_back : (s : FencedRows) (place : ℕ) (cut : Key) → AreFenced s → cut ≡ first_key_or (drop place s.rows) s.high → AreFenced (record { low = cut; high = s.high; rows = drop place s.rows })
fenced_back s place cut h e = record {
  fences = (cut_within s place cut h e).0;
  sorted = sorted_drop place s.rows h.sorted;
  within = rw e (back (drop place s.rows) (sorted_drop place s.rows h.sorted) (all_drop _ place s.rows h.within));
}
  where
    back : (rs : List Row) → AreSorted rs → AreWithin s.low s.high rs → AreWithin (first_key_or rs s.high) s.high rs
    back [] o w = tt
    back (r ∷ rs) o w = (
      between_of r.key s.high r.key (below_self r.key) (between_parts s.low s.high r.key w.0).1,
      all_both (λ q. is_below r.key q.key ≡ true) (λ q. is_between s.low s.high q.key ≡ true) (λ q. is_between r.key s.high q.key ≡ true)
          (λ q a b. between_of r.key s.high q.key (below_flip r.key q.key a) (between_parts s.low s.high q.key b).1) rs o.0 w.1,
    )
