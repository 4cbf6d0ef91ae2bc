-- Rows with the heads at their places, as a function of keys.
use Rattle.std.proofs.Common.{◌≡◌, ◌≢◌, ◌⊎◌, ℕ, zero, suc, ◌+◌, ◌<◌, ◌≤◌, List, [], ◌∷◌, length, take, drop, set, nat_eq, cond, refl, sym, ◌∙◌, ap, subst, arith, inl, inr, Some, None}
use Rattle.std.specs.Prelude.{Bool, true, false, ◌==◌, insert, remove, slice_get, Option, IsSomeAnd}
use Rattle.std.specs.List.{AllByRecursion}
use Rattle.std.specs.Option.{unwrap_or}
use Rattle.std.specs.Ordering.{eq_by_cmp}
use Rattle.std.specs.FinMap.Entries.{find}
use Rattle.std.proofs.lemmas.Bool.Decides.{nat_tests}
use Rattle.graph_model.specs.declared.row.Key.{Key}
use Rattle.graph_model.specs.declared.row.Row.{Row}
use Rattle.graph_model.specs.Rows.{key_cmp, is_below, is_between}
use Rattle.graph_model.proofs.PlaceLemmas.{some_eq}
use Rattle.graph_model.proofs.KeyLemmas.{below_flip, below_self, between_parts}
use Rattle.graph_model.proofs.TestLemmas.{eq_of}
use Rattle.gap_segment.proofs.FencedLemmas.{all_map}
use Rattle.gap_segment.specs.Fenced.{AreSorted, IsGapFor, IsPlaceOf, with_weight}
use Rattle.head_map.specs.declared.heads.Heads.{Heads}
use Rattle.head_map.specs.Heads.{ChangedRow}
use Rattle.head_map.specs.Heads.{PlacedRow}
use Rattle.head_map.specs.Keyed.{entries_by, RisesBy, IsGapBy}
use Rattle.head_map.specs.Heads.{settled_heads, row_key, row_heads, heads_at, heads_placed, opened, closed, keyed, AreSettledRows}
use Rattle.row_table.specs.Parts.{value_in, with_value}
use Rattle.head_map.proofs.KeyedLemmas.{tied_same}
use Rattle.head_map.proofs.PlaceLemmas.{below_or_not, other_test, opened_high, closed_high}
use Rattle.head_map.proofs.HeadLemmas.{found_at, index_below, heads_there, heads_gap, heads_set, heads_insert, heads_remove}

-- ---- tests of places

later_test : (p : ℕ) → nat_eq (suc p) 0 ≡ false
later_test p = grind (arith, nat_tests)

next_test : (p i : ℕ) → nat_eq (suc p) (suc i) ≡ nat_eq p i
next_test p i = go (nat_eq p i) refl
  where
    go : (t : Bool) → nat_eq p i ≡ t → nat_eq (suc p) (suc i) ≡ t
    go true e = let same : p ≡ i = grind (arith, nat_tests) in grind (arith, nat_tests)
    go false e = let other : p ≢ i = grind (arith, nat_tests) in grind (arith, nat_tests)

-- ---- the list of rows with heads

pub keyed_same : (rows : List Row) (f g : ℕ → Heads) → ((p : ℕ) → p < length rows → g p ≡ f p) → keyed rows g ≡ keyed rows f
keyed_same [] f g h = refl
keyed_same (r ∷ rs) f g h = λ i. record { key = r.key; heads = h 0 (omega arith) i } ∷ keyed_same rs (λ p. f (suc p)) (λ p. g (suc p)) (λ p lt. h (suc p) (omega (arith, lt))) i

keyed_rise : (rows : List Row) (f : ℕ → Heads) → AreSorted rows → RisesBy row_key (keyed rows f)
keyed_rise [] f h = tt
keyed_rise (r ∷ rs) f h = (above rs (λ p. f (suc p)) h.0, keyed_rise rs (λ p. f (suc p)) h.1)
  where
    above : (qs : List Row) (g : ℕ → Heads) → AllByRecursion (λ q. is_below r.key q.key ≡ true) qs → AllByRecursion (λ x. is_below r.key (row_key x) ≡ true) (keyed qs g)
    above [] g a = tt
    above (q ∷ qs) g a = (a.0, above qs (λ p. g (suc p)) a.1)

keyed_there : (rows : List Row) (f : ℕ → Heads) (i : ℕ) (r : Row) → slice_get rows i ≡ Some r → slice_get (keyed rows f) i ≡ Some (record { key = r.key; heads = f i })
keyed_there [] f zero r e = cc
keyed_there [] f (suc i) r e = cc
keyed_there (q ∷ qs) f zero r e = ap (λ (x : Row). Some (record { key = x.key; heads = f 0 })) (some_eq q r e)
keyed_there (q ∷ qs) f (suc i) r e = keyed_there qs (λ p. f (suc p)) i r e

keyed_gap : (rows : List Row) (f : ℕ → Heads) (k : Key) (i : ℕ) → IsGapFor rows k i → IsGapBy row_key (keyed rows f) k i
keyed_gap rows f k i gap = record { within = within rows f i gap.within; before = before rows f i gap.before; behind = behind rows f i gap.behind }
  where
    within : (qs : List Row) (g : ℕ → Heads) (j : ℕ) → j ≤ length qs → j ≤ length (keyed qs g)
    within [] g j le = le
    within (q ∷ qs) g zero le = omega arith
    within (q ∷ qs) g (suc j) le = let rest : j ≤ length (keyed qs (λ p. g (suc p))) = within qs (λ p. g (suc p)) j (omega (arith, le)) in omega (arith, rest)

    before : (qs : List Row) (g : ℕ → Heads) (j : ℕ) → AllByRecursion (λ q. is_below q.key k ≡ true) (take j qs) → AllByRecursion (λ x. is_below (row_key x) k ≡ true) (take j (keyed qs g))
    before qs g zero a = tt
    before [] g (suc j) a = tt
    before (q ∷ qs) g (suc j) a = (a.0, before qs (λ p. g (suc p)) j a.1)

    behind : (qs : List Row) (g : ℕ → Heads) (j : ℕ) → AllByRecursion (λ q. is_below k q.key ≡ true) (drop j qs) → AllByRecursion (λ x. is_below k (row_key x) ≡ true) (drop j (keyed qs g))
    behind [] g zero a = tt
    behind [] g (suc j) a = tt
    behind (q ∷ qs) g zero a = (a.0, behind qs (λ p. g (suc p)) zero a.1)
    behind (q ∷ qs) g (suc j) a = behind qs (λ p. g (suc p)) j a

keyed_set : (rows : List Row) (f g : ℕ → Heads) (i : ℕ) (h : Heads) (r : Row) → slice_get rows i ≡ Some r → ((p : ℕ) → g p ≡ cond (nat_eq p i) h (f p)) → keyed rows g ≡ set (keyed rows f) i (record { key = r.key; heads = h })
keyed_set [] f g zero h r e law = cc
keyed_set [] f g (suc i) h r e law = cc
keyed_set (q ∷ qs) f g zero h r e law =
    let same : q ≡ r = some_eq q r e in
    λ j. record { key = (same j).key; heads = law 0 j } ∷ keyed_same qs (λ p. f (suc p)) (λ p. g (suc p)) (λ p lt. law (suc p) ∙ ap (λ t. cond t h (f (suc p))) (later_test p)) j
keyed_set (q ∷ qs) f g (suc i) h r e law =
    λ j. record { key = q.key; heads = (law 0 ∙ ap (λ t. cond t h (f 0)) first_other) j }
    ∷ keyed_set qs (λ p. f (suc p)) (λ p. g (suc p)) i h r e (λ p. law (suc p) ∙ ap (λ t. cond t h (f (suc p))) (next_test p i)) j
  where
    first_other : nat_eq 0 (suc i) ≡ false
    first_other = grind (arith, nat_tests)

keyed_insert : (rows : List Row) (f g : ℕ → Heads) (i : ℕ) (h : Heads) (r : Row) → i ≤ length rows → ((p : ℕ) → g p ≡ cond (nat_eq p i) h (opened i f p)) → keyed (insert rows i r) g ≡ insert (keyed rows f) i (record { key = r.key; heads = h })
keyed_insert rows f g zero h r le law =
    λ j. record { key = r.key; heads = law 0 j } ∷ keyed_same rows f (λ p. g (suc p)) (λ p lt. law (suc p) ∙ ap (λ t. cond t h (f p)) (later_test p)) j
keyed_insert [] f g (suc i) h r le law = absurd (omega arith)
keyed_insert (q ∷ qs) f g (suc i) h r le law =
    λ j. record { key = q.key; heads = (law 0 ∙ ap (λ t. cond t h (f 0)) first_other) j }
    ∷ keyed_insert qs (λ p. f (suc p)) (λ p. g (suc p)) i h r (omega (arith, le)) (λ p. law (suc p) ∙ ap (λ t. cond t h (opened i (λ q. f (suc q)) p)) (next_test p i)) j
  where
    first_other : nat_eq 0 (suc i) ≡ false
    first_other = grind (arith, nat_tests)

keyed_remove : (rows : List Row) (f g : ℕ → Heads) (i : ℕ) → ((p : ℕ) → g p ≡ closed i f p) → keyed (remove rows i) g ≡ remove (keyed rows f) i
keyed_remove [] f g zero law = refl
keyed_remove [] f g (suc i) law = refl
keyed_remove (q ∷ qs) f g zero law = keyed_same qs (λ p. f (suc p)) g (λ p lt. law p)
keyed_remove (q ∷ qs) f g (suc i) law = λ j. record { key = q.key; heads = law 0 j } ∷ keyed_remove qs (λ p. f (suc p)) (λ p. g (suc p)) i (λ p. law (suc p)) j

-- weights don't count
pub keyed_weight : (rows : List Row) (f : ℕ → Heads) (i w : ℕ) → keyed (with_weight rows i w) f ≡ keyed rows f
keyed_weight [] f i w = refl
keyed_weight (r ∷ rs) f zero w = refl
keyed_weight (r ∷ rs) f (suc i) w = ap (λ xs. record { key = r.key; heads = f 0 } ∷ xs) (keyed_weight rs (λ p. f (suc p)) i w)

-- ---- heads at keys

-- a row's heads are those at its place
pub table_there : (rows : List Row) (f : ℕ → Heads) (k : Key) (i : ℕ) → AreSorted rows → IsSomeAnd (slice_get rows i) (λ r. r.key ≡ k) → heads_at (keyed rows f) k ≡ f i
table_there rows f k i sorted found = go (slice_get rows i) refl found
  where
    go : (o : Option Row) → slice_get rows i ≡ o → IsSomeAnd o (λ r. r.key ≡ k) → heads_at (keyed rows f) k ≡ f i
    go None e h = absurd h
    go (Some r) e h = heads_there row_key row_heads (keyed rows f) k i (record { key = r.key; heads = f i }) (keyed_rise rows f sorted) (keyed_there rows f i r e) h

pub table_gap : (rows : List Row) (f : ℕ → Heads) (k : Key) (i : ℕ) → IsGapFor rows k i → heads_at (keyed rows f) k ≡ settled_heads
table_gap rows f k i gap = heads_gap row_key row_heads (keyed rows f) k i (keyed_gap rows f k i gap)

module _ (rows : List Row) (f g : ℕ → Heads) (k : Key) (i : ℕ) (h : Heads) where
  -- a row gets other heads
  pub table_put : AreSorted rows → IsSomeAnd (slice_get rows i) (λ r. r.key ≡ k) → ((p : ℕ) → g p ≡ cond (nat_eq p i) h (f p))
      → (q : Key) → heads_at (keyed rows g) q ≡ cond (eq_by_cmp key_cmp q k) h (heads_at (keyed rows f) q)
  table_put sorted found law q = go (slice_get rows i) refl found
    where
      go : (o : Option Row) → slice_get rows i ≡ o → IsSomeAnd o (λ r. r.key ≡ k) → heads_at (keyed rows g) q ≡ cond (eq_by_cmp key_cmp q k) h (heads_at (keyed rows f) q)
      go None e is = absurd is
      go (Some r) e is =
          ap (λ rs. heads_at rs q) (keyed_set rows f g i h r e law)
          ∙ heads_set row_key row_heads (keyed rows f) k i (record { key = r.key; heads = f i }) (record { key = r.key; heads = h }) (keyed_rise rows f sorted) (keyed_there rows f i r e) is is q

  -- a new row comes with its heads
  pub table_insert : (r : Row) → r.key ≡ k → IsGapFor rows k i → ((p : ℕ) → g p ≡ cond (nat_eq p i) h (opened i f p))
      → (q : Key) → heads_at (keyed (insert rows i r) g) q ≡ cond (eq_by_cmp key_cmp q k) h (heads_at (keyed rows f) q)
  table_insert r is gap law q =
      ap (λ rs. heads_at rs q) (keyed_insert rows f g i h r gap.within law)
      ∙ heads_insert row_key row_heads (keyed rows f) k i (record { key = r.key; heads = h }) (keyed_gap rows f k i gap) is q

  -- a row goes
  pub table_remove : h ≡ settled_heads → AreSorted rows → IsSomeAnd (slice_get rows i) (λ r. r.key ≡ k) → ((p : ℕ) → g p ≡ closed i f p)
      → (q : Key) → heads_at (keyed (remove rows i) g) q ≡ cond (eq_by_cmp key_cmp q k) h (heads_at (keyed rows f) q)
  table_remove s sorted found law q = go (slice_get rows i) refl found
    where
      go : (o : Option Row) → slice_get rows i ≡ o → IsSomeAnd o (λ r. r.key ≡ k) → heads_at (keyed (remove rows i) g) q ≡ cond (eq_by_cmp key_cmp q k) h (heads_at (keyed rows f) q)
      go None e is = absurd is
      go (Some r) e is =
          ap (λ rs. heads_at rs q) (keyed_remove rows f g i law)
          ∙ heads_remove row_key row_heads (keyed rows f) k i (record { key = r.key; heads = f i }) h (keyed_rise rows f sorted) (keyed_there rows f i r e) is s q

-- ---- places behind all rows

pub found_below : {X : Type 0} (P : X → Type 0) (xs : List X) (i : ℕ) → IsSomeAnd (slice_get xs i) P → i < length xs
found_below P xs i h = let x = found_at P xs i h in index_below xs i x.0 x.1

module _ (f g : ℕ → Heads) (n place : ℕ) (settled : (p : ℕ) → n ≤ p → f p ≡ settled_heads) where
  pub behind_put : (h : Heads) → place < n → ((p : ℕ) → g p ≡ cond (nat_eq p place) h (f p)) → (p : ℕ) → n ≤ p → g p ≡ settled_heads
  behind_put h lt law p le = law p ∙ ap (λ t. cond t h (f p)) (other_test p place (λ e. omega (arith, lt, le, e))) ∙ settled p le

  pub behind_insert : (h : Heads) (m : ℕ) → m ≡ n + 1 → place ≤ n → ((p : ℕ) → g p ≡ cond (nat_eq p place) h (opened place f p)) → (p : ℕ) → m ≤ p → g p ≡ settled_heads
  behind_insert h m one lt law zero le = absurd (omega (arith, one, le))
  behind_insert h m one lt law (suc p) le =
      law (suc p) ∙ ap (λ t. cond t h (opened place f (suc p))) (other_test (suc p) place (λ e. omega (arith, one, lt, le, e)))
      ∙ opened_high place f p (omega (arith, one, lt, le)) ∙ settled p (omega (arith, one, le))

  pub behind_remove : (m : ℕ) → n ≡ m + 1 → place < n → ((p : ℕ) → g p ≡ closed place f p) → (p : ℕ) → m ≤ p → g p ≡ settled_heads
  behind_remove m one lt law p le = law p ∙ closed_high place f p (omega (arith, one, lt, le)) ∙ settled (suc p) (omega (arith, one, le))

pub length-insert : {X : Type 0} (xs : List X) (i : ℕ) (x : X) → i ≤ length xs → length (insert xs i x) ≡ length xs + 1
length-insert xs zero x le = omega arith
length-insert [] (suc i) x le = absurd (omega arith)
length-insert (y ∷ ys) (suc i) x le = let rest : length (insert ys i x) ≡ length ys + 1 = length-insert ys i x (omega (arith, le)) in omega (arith, rest)

pub length-remove : {X : Type 0} (xs : List X) (i : ℕ) → i < length xs → length xs ≡ length (remove xs i) + 1
length-remove [] i lt = absurd (omega arith)
length-remove (y ∷ ys) zero lt = omega arith
length-remove (y ∷ ys) (suc i) lt = let rest : length ys ≡ length (remove ys i) + 1 = length-remove ys i (omega (arith, lt)) in omega (arith, rest)

pub length-with_weight : (rows : List Row) (i w : ℕ) → length (with_weight rows i w) ≡ length rows
length-with_weight [] i w = refl
length-with_weight (r ∷ rs) zero w = refl
length-with_weight (r ∷ rs) (suc i) w = ap suc (length-with_weight rs i w)

-- the place of a row that has the key
pub place_of_found : (rows : List Row) (k : Key) (i : ℕ) → AreSorted rows → IsSomeAnd (slice_get rows i) (λ r. r.key ≡ k) → IsPlaceOf rows k i
place_of_found rows k i sorted found = let x = found_at _ rows i found in go rows i x.0 sorted x.1 x.2
  where
    go : (xs : List Row) (j : ℕ) (r : Row) → AreSorted xs → slice_get xs j ≡ Some r → r.key ≡ k → IsPlaceOf xs k j
    go [] zero r s e f = cc
    go [] (suc j) r s e f = cc
    go (x ∷ xs) zero r s e f =
        let same : x.key ≡ k = ap (λ (y : Row). y.key) (some_eq x r e) ∙ f in
        record {
          within = omega arith;
          before = tt;
          behind = (
            ap (λ (y : Key). is_below y k) same ∙ below_self k,
            all_map (λ y. is_below x.key y.key ≡ true) (λ y. is_below y.key k ≡ false) (λ y h. below_flip k y.key (subst (λ (z : Key). is_below z y.key ≡ true) same h)) xs s.0,
          );
        }
    go (x ∷ xs) (suc j) r s e f =
        let rest = go xs j r s.1 e f in
        record { within = omega (arith, rest.within); before = (before x xs j r s.0 e f, rest.before); behind = rest.behind }
      where
        before : (y : Row) (ys : List Row) (m : ℕ) (q : Row) → AllByRecursion (λ z. is_below y.key z.key ≡ true) ys → slice_get ys m ≡ Some q → q.key ≡ k → is_below y.key k ≡ true
        before y [] zero q h g t = cc
        before y [] (suc m) q h g t = cc
        before y (z ∷ zs) zero q h g t = subst (λ (w : Key). is_below y.key w ≡ true) (ap (λ (w : Row). w.key) (some_eq z q g) ∙ t) h.0
        before y (z ∷ zs) (suc m) q h g t = before y zs m q h.1 g t

pub place_of_gap : (rows : List Row) (k : Key) (i : ℕ) → IsGapFor rows k i → IsPlaceOf rows k i
place_of_gap rows k i gap = record {
  within = gap.within;
  before = gap.before;
  behind = all_map (λ r. is_below k r.key ≡ true) (λ r. is_below r.key k ≡ false) (λ r h. below_flip k r.key h) (drop i rows) gap.behind;
}

-- where no row is changed
pub none_placed : (es : List PlacedRow) → (length es == 0) ≡ true → (p : ℕ) → heads_placed es p ≡ settled_heads
none_placed [] e p = refl
none_placed (x ∷ xs) e p = let none : length (x ∷ xs) ≡ 0 = eq_of (length (x ∷ xs)) 0 e in absurd (omega (arith, none))

-- ---- rows that are settled

-- a key's heads are those of a row that has it, or it is settled
pub table_cases : (rows : List Row) (f : ℕ → Heads) (q : Key) → (heads_at (keyed rows f) q ≡ settled_heads) ⊎ ((i : ℕ) × (r : Row) × (slice_get rows i ≡ Some r) × (r.key ≡ q) × (heads_at (keyed rows f) q ≡ f i))
table_cases [] f q = inl refl
table_cases (r ∷ rs) f q = go (eq_by_cmp key_cmp q r.key) refl (table_cases rs (λ p. f (suc p)) q)
  where
    later : List ChangedRow
    later = keyed rs (λ p. f (suc p))

    go : (t : Bool) → eq_by_cmp key_cmp q r.key ≡ t → (heads_at (keyed rs (λ p. f (suc p))) q ≡ settled_heads) ⊎ ((i : ℕ) × (x : Row) × (slice_get rs i ≡ Some x) × (x.key ≡ q) × (heads_at (keyed rs (λ p. f (suc p))) q ≡ f (suc i)))
        → (heads_at (keyed (r ∷ rs) f) q ≡ settled_heads) ⊎ ((i : ℕ) × (x : Row) × (slice_get (r ∷ rs) i ≡ Some x) × (x.key ≡ q) × (heads_at (keyed (r ∷ rs) f) q ≡ f i))
    go true e rest = inr (0, r, refl, sym (tied_same q r.key e), ap (λ t. unwrap_or (cond t (Some (f 0)) (find key_cmp q (entries_by row_key row_heads (keyed rs (λ p. f (suc p)))))) settled_heads) e)
    go false e (inl none) = inl (ap (λ t. unwrap_or (cond t (Some (f 0)) (find key_cmp q (entries_by row_key row_heads (keyed rs (λ p. f (suc p)))))) settled_heads) e ∙ none)
    go false e (inr found) = inr (suc found.0, found.1, found.2, found.3, ap (λ t. unwrap_or (cond t (Some (f 0)) (find key_cmp q (entries_by row_key row_heads (keyed rs (λ p. f (suc p)))))) settled_heads) e ∙ found.4)

pub all_settled : (rows : List Row) (f : ℕ → Heads) → ((p : ℕ) → f p ≡ settled_heads) → (q : Key) → heads_at (keyed rows f) q ≡ settled_heads
all_settled rows f h q = elim (table_cases rows f q) [ inl none ↦ none | inr found ↦ found.4 ∙ h found.0 ]

at_front : {X : Type 0} (P : X → Type 0) (xs : List X) (n i : ℕ) (x : X) → AllByRecursion P (take n xs) → i < n → slice_get xs i ≡ Some x → P x
at_front P [] n zero x h lt e = cc
at_front P [] n (suc i) x h lt e = cc
at_front P (y ∷ ys) zero i x h lt e = absurd (omega (arith, lt))
at_front P (y ∷ ys) (suc n) zero x h lt e = subst P (some_eq y x e) h.0
at_front P (y ∷ ys) (suc n) (suc i) x h lt e = at_front P ys n i x h.1 (omega (arith, lt)) e

at_back : {X : Type 0} (P : X → Type 0) (xs : List X) (n i : ℕ) (x : X) → AllByRecursion P (drop n xs) → n ≤ i → slice_get xs i ≡ Some x → P x
at_back P [] n zero x h le e = cc
at_back P [] n (suc i) x h le e = cc
at_back P (y ∷ ys) zero zero x h le e = subst P (some_eq y x e) h.0
at_back P (y ∷ ys) zero (suc i) x h le e = at_back P ys zero i x h.1 (omega arith) e
at_back P (y ∷ ys) (suc n) zero x h le e = absurd (omega (arith, le))
at_back P (y ∷ ys) (suc n) (suc i) x h le e = at_back P ys n i x h (omega (arith, le)) e

-- where the rows between two keys are settled, so are all keys between them
pub settled_range : (rows : List Row) (f : ℕ → Heads) (from until : Key) (a b : ℕ) → IsPlaceOf rows from a → IsPlaceOf rows until b → ((p : ℕ) → a ≤ p → p < b → f p ≡ settled_heads)
    → (q : Key) → is_between from until q ≡ true → heads_at (keyed rows f) q ≡ settled_heads
settled_range rows f from until a b low high h q within = elim (table_cases rows f q) [
  | inl none ↦ none
  | inr found ↦ found.4 ∙ h found.0 (above found.0 found.1 found.2 found.3) (below found.0 found.1 found.2 found.3)
]
  where
    parts : (is_below q from ≡ false) × (is_below q until ≡ true)
    parts = between_parts from until q within

    clash : (t : Bool) → t ≡ true → t ≡ false → ⊥
    clash t e g = cc

    above : (i : ℕ) (r : Row) → slice_get rows i ≡ Some r → r.key ≡ q → a ≤ i
    above i r e k = go (below_or_not i a)
      where
        go : (i < a) ⊎ (a ≤ i) → a ≤ i
        go (inl lt) = absurd (clash (is_below r.key from) (at_front (λ x. is_below x.key from ≡ true) rows a i r low.before lt e) (ap (λ (x : Key). is_below x from) k ∙ parts.0))
        go (inr le) = le

    below : (i : ℕ) (r : Row) → slice_get rows i ≡ Some r → r.key ≡ q → i < b
    below i r e k = go (below_or_not i b)
      where
        go : (i < b) ⊎ (b ≤ i) → i < b
        go (inl lt) = lt
        go (inr le) = absurd (clash (is_below r.key until) (ap (λ (x : Key). is_below x until) k ∙ parts.1) (at_back (λ x. is_below x.key until ≡ false) rows b i r high.behind le e))

-- rows are settled where their places are
pub settled_rows : (rows : List Row) (f : ℕ → Heads) (first end : ℕ) → AreSorted rows → ((p : ℕ) → first ≤ p → p < end → f p ≡ settled_heads) → AreSettledRows rows (keyed rows f) first end
settled_rows rows f first end sorted h p row there le lt =
    table_there rows f row.key p sorted (subst (λ (o : Option Row). IsSomeAnd o (λ r. r.key ≡ row.key)) (sym there) refl) ∙ h p le lt

-- a row that is given the value that it has stays as it is
pub kept_value : (rows : List Row) (key : Key) (h : Heads) (place : ℕ) (v : Option ℕ) (b : Bool) → IsSomeAnd (slice_get rows place) (λ r. (r.key ≡ key) × (v ≡ value_in h r.weight)) → (v ≡ None → b ≡ true) → with_value rows place v b ≡ rows
kept_value rows key h place (Some w) b there changed = same_weight rows place there
  where
    own : (h : Heads) (weight : ℕ) → Some w ≡ value_in h weight → w ≡ weight
    own h weight e = elim h.has_value as (λ t. Some w ≡ cond t (Some weight) None → w ≡ weight) [ true ↦ λ f. some_eq w weight f | false ↦ λ f. cc ] e

    same_weight : (rows : List Row) (place : ℕ) → IsSomeAnd (slice_get rows place) (λ r. (r.key ≡ key) × (Some w ≡ value_in h r.weight)) → with_weight rows place w ≡ rows
    same_weight [] place there = refl
    same_weight (x ∷ xs) zero there = ap (λ n. record x { weight = n } ∷ xs) (own h x.weight there.1)
    same_weight (x ∷ xs) (suc place) there = ap (λ ys. x ∷ ys) (same_weight xs place there)
kept_value rows key h place None true there changed = refl
kept_value rows key h place None false there changed = clash (changed refl)
  where
    clash : false ≡ true → remove rows place ≡ rows
    clash e = cc
