-- The parts of a segment that is laid to rest and woken again.
use Rattle.std.proofs.Common.{◌≡◌, ◌⊎◌, inl, inr, ℕ, zero, suc, ◌-◌, ◌<◌, ◌≤◌, List, [], ◌∷◌, map, length, refl, sym, ◌∙◌, ap, subst, cond, arith, Option, Some, None, min, get_or}
use Rattle.std.specs.Prelude.{Bool, true, false, ◌==◌, ◌||◌, not, is_some, nat_le, slice_get, IfSome, IsSomeAnd}
use Rattle.std.specs.List.{AllByRecursion}
use Rattle.std.specs.Ordering.{eq_by_cmp}
use mathlib.Core.Logic.{dite}
use native.Mathlib.Decide.{dec_lt}
use Rattle.graph_model.specs.declared.row.Key.{Key}
use Rattle.graph_model.specs.declared.row.Row.{Row}
use Rattle.graph_model.specs.declared.limits.TheConstants.{MAX_WEIGHT}
use Rattle.graph_model.specs.Rows.{key_cmp, is_below}
use Rattle.graph_model.proofs.PlaceLemmas.{some_eq}
use Rattle.gap_segment.specs.Fenced.{FencedRows, AreFenced, AreSorted, AreAbove, AreWithin, with_weight}
use Rattle.store_model.specs.Stamped.{StampedVersions}
use Rattle.row_table.specs.UndoChain.Chains.{ChainMap, list_at}
use Rattle.row_table.specs.UndoChain.Records.{UndoRecord, pairs_of}
use Rattle.row_table.specs.HeadMapDeclared.heads.Heads.{Heads}
use Rattle.row_table.specs.HeadMap.Heads.{ChangedRow, PlacedRow, PlaceTable, settled_heads, heads_at, heads_placed, keyed, keyed_table}
use Rattle.row_table.specs.Lists.{AreHeads, AreOthers, HasRest}
use Rattle.row_table.specs.Parts.{of_lists, value_in, versions_in, versioned, view_of, AreParts}
use Rattle.row_table.specs.Rows.{is_empty}
use Rattle.version_segment.specs.Resting.{newest_value, with_newest, mark, no_value, word_of, value_in_word, RestingRow, RestingRows, resting_row, resting_of, word_row, word_rows, HasSmallWeights, woken_rows, woken, AgreeWith, AreErased, weight_in_word, settled_rest}
use Rattle.version_segment.specs.RestingParts.{resting_at, resting_places, resting_view, AreRestingParts, words_from, placed_words, plain_rows, reweighed, AreSmallAt}
use Rattle.row_table.proofs.HeadMap.KeyedLemmas.{tied_self, below_untied, above_untied}
use Rattle.row_table.proofs.TableLemmas.{table_there, table_cases}
use Rattle.row_table.proofs.PartLemmas.{list_there}
use Rattle.row_table.proofs.HeadMap.HeadLemmas.{there_at, index_of}

-- ---- lists of records

-- a newest value over a list of records is put into the versions that the list makes without one
list_newest : (v : Option ℕ) (us ts : List UndoRecord) → of_lists v us ts ≡ with_newest v (of_lists None us ts)
list_newest v [] ts = refl
list_newest v (u ∷ us) ts = refl

-- it is the newest value of those versions
newest_list : (v : Option ℕ) (us ts : List UndoRecord) → newest_value (of_lists v us ts) ≡ v
newest_list v [] ts = refl
newest_list v (u ∷ us) ts = refl

-- taken out of them it leaves the versions that the list makes without one
erased_list : (v : Option ℕ) (us ts : List UndoRecord) → with_newest None (of_lists v us ts) ≡ of_lists None us ts
erased_list v [] ts = refl
erased_list v (u ∷ us) ts = refl

-- there are undo records where the list has any
empty_list : (v : Option ℕ) (us : List UndoRecord) → is_empty (pairs_of v us) ≡ is_empty us
empty_list v [] = refl
empty_list v (u ∷ us) = refl

-- ---- places of sorted rows

-- what holds of all holds of the one at a place
all_at : {X : Type 0} (P : X → Type 0) (xs : List X) (i : ℕ) (x : X) → AllByRecursion P xs → slice_get xs i ≡ Some x → P x
all_at P [] i x h e = cc
all_at P (y ∷ ys) zero x h e = subst P (some_eq y x e) h.0
all_at P (y ∷ ys) (suc i) x h e = all_at P ys i x h.1 e

-- rows at two places of sorted ones have two keys
sorted_apart : (rows : List Row) (p q : ℕ) (r s : Row) → AreSorted rows → slice_get rows p ≡ Some r → slice_get rows q ≡ Some s → (p ≡ q → ⊥) → eq_by_cmp key_cmp r.key s.key ≡ false
sorted_apart [] p q r s sorted e f ne = cc
sorted_apart (x ∷ xs) zero zero r s sorted e f ne = absurd (ne refl)
sorted_apart (x ∷ xs) zero (suc q) r s sorted e f ne = subst (λ (y : Row). eq_by_cmp key_cmp y.key s.key ≡ false) (some_eq x r e) (below_untied x.key s.key (all_at (λ y. is_below x.key y.key ≡ true) xs q s sorted.0 f))
sorted_apart (x ∷ xs) (suc p) zero r s sorted e f ne = subst (λ (y : Row). eq_by_cmp key_cmp r.key y.key ≡ false) (some_eq x s f) (above_untied x.key r.key (all_at (λ y. is_below x.key y.key ≡ true) xs p r sorted.0 e))
sorted_apart (x ∷ xs) (suc p) (suc q) r s sorted e f ne = sorted_apart xs p q r s sorted.1 e f (λ m. ne (ap suc m))

-- ---- rows at their places

module _ (c : ChainMap) where
  -- each row with the versions that the heads at its place tell
  abbrev placed : (ℕ → Heads) → List Row → List (Key × StampedVersions)
  placed f [] = []
  placed f (r ∷ rs) = (r.key, versions_in c (f 0) r.weight) ∷ placed (λ p. f (suc p)) rs

  -- heads that are found by key are those at the places of the keys
  by_place : (heads : List ChangedRow) (f : ℕ → Heads) (rows : List Row) → ((i : ℕ) (r : Row) → slice_get rows i ≡ Some r → heads_at heads r.key ≡ f i) → versioned c heads rows ≡ placed f rows
  by_place heads f [] h = refl
  by_place heads f (r ∷ rs) h = λ i. (r.key, versions_in c (h 0 r refl i) r.weight) ∷ by_place heads (λ p. f (suc p)) rs (λ j x e. h (suc j) x e) i

  -- rows that rise have the versions of the heads at their places
  pub placed_versions : (f : ℕ → Heads) (rows : List Row) → AreSorted rows → versioned c (keyed rows f) rows ≡ placed f rows
  placed_versions f rows sorted = by_place (keyed rows f) f rows (λ i r e. table_there rows f r.key i sorted (subst (λ o. IsSomeAnd o (λ x. x.key ≡ r.key)) (sym e) refl))

  -- what is left of such rows is what is left at their places
  resting_placed : (f : ℕ → Heads) (rows : List Row) → map resting_row (placed f rows) ≡ resting_places c (length rows) f
  resting_placed f [] = refl
  resting_placed f (r ∷ rs) = λ i. record {
    has_value = (ap is_some (newest_list (value_in (f 0) r.weight) (list_at c (f 0).undos) (list_at c (f 0).touches)) ∙ some_value (f 0).has_value) i;
    versions = erased_list (value_in (f 0) r.weight) (list_at c (f 0).undos) (list_at c (f 0).touches) i;
  } ∷ resting_placed (λ p. f (suc p)) rs i
    where
      some_value : (b : Bool) → is_some (cond b (Some r.weight) None) ≡ b
      some_value true = refl
      some_value false = refl

  -- their words are those of the heads at their places
  words_placed : (f : ℕ → Heads) (rows : List Row) → ((p : ℕ) → AreHeads c (f p)) → map word_row (placed f rows) ≡ words_from f rows
  words_placed f [] h = refl
  words_placed f (r ∷ rs) h = λ i. record {
    key = r.key;
    weight = word_of (newest_list (value_in (f 0) r.weight) (list_at c (f 0).undos) (list_at c (f 0).touches) i) ((empty_list (value_in (f 0) r.weight) (list_at c (f 0).undos) ∙ list_there c (f 0).undos (h 0).undos) i);
  } ∷ words_placed (λ p. f (suc p)) rs (λ p. h (suc p)) i

  -- their weights are within the limit where their newest values are
  small_placed : (f : ℕ → Heads) (rows : List Row) → AllByRecursion (λ row. IfSome (newest_value row.1) (λ weight. weight ≤ MAX_WEIGHT)) (placed f rows) → AreSmallAt f rows
  small_placed f [] h = tt
  small_placed f (r ∷ rs) h = ((λ is. subst (λ o. IfSome o (λ weight. weight ≤ MAX_WEIGHT)) (newest_list (value_in (f 0) r.weight) (list_at c (f 0).undos) (list_at c (f 0).touches) ∙ is) h.0), small_placed (λ p. f (suc p)) rs h.1)

  -- rows with the weights that words tell have the versions of woken rows
  woken_placed : (f : ℕ → Heads) (words : List Row) → AgreeWith (resting_places c (length words) f) words → placed f (plain_rows words) ≡ woken_rows (resting_places c (length words) f) words
  woken_placed f [] h = refl
  woken_placed f (r ∷ rs) h = λ i. (r.key, (ap (λ v. of_lists v (list_at c (f 0).undos) (list_at c (f 0).touches)) (same_value (f 0).has_value (sym h.0.value)) ∙ list_newest (value_in_word r.weight) (list_at c (f 0).undos) (list_at c (f 0).touches)) i) ∷ woken_placed (λ p. f (suc p)) rs h.1 i
    where
      same_value : (has : Bool) → has ≡ is_some (value_in_word r.weight) → cond has (Some (weight_in_word r.weight)) None ≡ value_in_word r.weight
      same_value has is = by_tests (r.weight == no_value) (nat_le mark r.weight) has is
        where
          by_tests : (a b has : Bool) → has ≡ is_some (cond a None (cond b (Some (r.weight - mark)) (Some r.weight))) → cond has (Some (cond b (r.weight - mark) r.weight)) None ≡ cond a None (cond b (Some (r.weight - mark)) (Some r.weight))
          by_tests true b true is = cc
          by_tests true b false is = refl
          by_tests false true true is = refl
          by_tests false true false is = cc
          by_tests false false true is = refl
          by_tests false false false is = cc

  -- ---- the parts of both

  -- a settled row has no lists
  none_heads : AreHeads c settled_heads
  none_heads = record { undos = tt; touches = tt; own = λ k a b. cc }

  module _ (rows : FencedRows) (f : ℕ → Heads) (is : AreParts rows (keyed rows.rows f) c) (behind : (p : ℕ) → length rows.rows ≤ p → f p ≡ settled_heads) where
    -- a place has a row, or nothing
    where_is : (p : ℕ) → (f p ≡ settled_heads) ⊎ ((r : Row) × (slice_get rows.rows p ≡ Some r) × (heads_at (keyed rows.rows f) r.key ≡ f p))
    where_is p = dite (dec_lt p (length rows.rows))
        (λ lt. let t = there_at rows.rows p lt in inr (t.0, t.1, table_there rows.rows f t.0.key p is.fenced.sorted (subst (λ o. IsSomeAnd o (λ x. x.key ≡ t.0.key)) (sym t.1) refl)))
        (λ not. inl (behind p (omega arith)))

    -- the parts of a segment are those of one at rest
    pub rest_parts : AreRestingParts c f (length rows.rows)
    rest_parts = record {
      heads = λ p. elim (where_is p) as (λ _. AreHeads c (f p)) [ inl none ↦ subst (AreHeads c) (sym none) none_heads | inr t ↦ subst (AreHeads c) t.2 (is.lists.heads t.0.key) ];
      apart = λ p q ne. elim (where_is p) as (λ _. AreOthers (f q) (f p).undos (f p).touches) [
        | inl none ↦ subst (λ (h : Heads). AreOthers (f q) h.undos h.touches) (sym none) (record { undos_undos = λ k a b. cc; undos_touches = λ k a b. cc; touches_undos = λ k a b. cc; touches_touches = λ k a b. cc })
        | inr t ↦ elim (where_is q) as (λ _. AreOthers (f q) (f p).undos (f p).touches) [
          | inl none ↦ subst (λ (h : Heads). AreOthers h (f p).undos (f p).touches) (sym none) (record { undos_undos = λ k a b. cc; undos_touches = λ k a b. cc; touches_undos = λ k a b. cc; touches_touches = λ k a b. cc })
          | inr u ↦ subst (λ (h : Heads × Heads). AreOthers h.1 h.0.undos h.0.touches) (λ i. (t.2 i, u.2 i)) (is.lists.apart t.0.key u.0.key (sorted_apart rows.rows p q t.0 u.0 is.fenced.sorted t.1 u.1 ne))
        ]
      ];
      rest = λ p. elim (where_is p) as (λ _. HasRest (f p)) [ inl none ↦ subst HasRest (sym none) (λ e. cc) | inr t ↦ subst HasRest t.2 (is.rest t.0.key) ];
      behind = behind;
    }

  -- and those of one at rest are a segment's, with rows that rise between fence keys
  pub wake_parts : (rows : FencedRows) (f : ℕ → Heads) (count : ℕ) → AreFenced rows → AreRestingParts c f count → AreParts rows (keyed rows.rows f) c
  wake_parts rows f count fenced is = record {
    fenced = fenced;
    lists = record {
      heads = λ q. elim (table_cases rows.rows f q) as (λ _. AreHeads c (heads_at (keyed rows.rows f) q)) [ inl none ↦ subst (AreHeads c) (sym none) none_heads | inr t ↦ subst (AreHeads c) (sym t.4) (is.heads t.0) ];
      apart = λ p q untied. elim (table_cases rows.rows f p) as (λ _. AreOthers (heads_at (keyed rows.rows f) q) (heads_at (keyed rows.rows f) p).undos (heads_at (keyed rows.rows f) p).touches) [
        | inl none ↦ subst (λ (h : Heads). AreOthers (heads_at (keyed rows.rows f) q) h.undos h.touches) (sym none) (record { undos_undos = λ k a b. cc; undos_touches = λ k a b. cc; touches_undos = λ k a b. cc; touches_touches = λ k a b. cc })
        | inr t ↦ elim (table_cases rows.rows f q) as (λ _. AreOthers (heads_at (keyed rows.rows f) q) (heads_at (keyed rows.rows f) p).undos (heads_at (keyed rows.rows f) p).touches) [
          | inl none ↦ subst (λ (h : Heads). AreOthers h (heads_at (keyed rows.rows f) p).undos (heads_at (keyed rows.rows f) p).touches) (sym none) (record { undos_undos = λ k a b. cc; undos_touches = λ k a b. cc; touches_undos = λ k a b. cc; touches_touches = λ k a b. cc })
          | inr u ↦ subst (λ (h : Heads × Heads). AreOthers h.1 h.0.undos h.0.touches) (λ i. (sym t.4 i, sym u.4 i)) (is.apart t.0 u.0 (λ same. clash p q untied
              (sym t.3 ∙ ap (λ (r : Row). r.key) (some_eq t.1 u.1 (sym t.2 ∙ ap (slice_get rows.rows) same ∙ u.2)) ∙ u.3)))
        ]
      ];
    };
    rest = λ q. elim (table_cases rows.rows f q) as (λ _. HasRest (heads_at (keyed rows.rows f) q)) [ inl none ↦ subst HasRest (sym none) (λ e. cc) | inr t ↦ subst HasRest (sym t.4) (is.rest t.0) ];
  }
    where
      clash : (p q : Key) → eq_by_cmp key_cmp p q ≡ false → p ≡ q → ⊥
      clash p q untied same = let e : eq_by_cmp key_cmp p q ≡ true = ap (eq_by_cmp key_cmp p) (sym same) ∙ tied_self p in cc

  -- ---- views

  -- what is left of a segment stands under its heads
  pub rest_view : (rows : FencedRows) (heads : PlaceTable) → AreSorted rows.rows → resting_view c heads (length rows.rows) ≡ resting_of (view_of rows (keyed_table rows.rows heads) c)
  rest_view rows heads sorted = λ i. record {
    rows = (sym (resting_placed (heads_placed heads.entries) rows.rows) ∙ ap (map resting_row) (sym (placed_versions (heads_placed heads.entries) rows.rows sorted))) i;
    spare = min c.spare heads.spare;
  }

  -- its rows with their words are laid by its heads
  pub rest_words : (rows : FencedRows) (heads : PlaceTable) → AreSorted rows.rows → ((p : ℕ) → AreHeads c (heads_placed heads.entries p)) → placed_words heads.entries rows.rows ≡ word_rows (view_of rows (keyed_table rows.rows heads) c)
  rest_words rows heads sorted at = sym (words_placed (heads_placed heads.entries) rows.rows at) ∙ ap (map word_row) (sym (placed_versions (heads_placed heads.entries) rows.rows sorted))

  -- its weights are within the limit where its newest values are
  pub rest_small : (rows : FencedRows) (heads : PlaceTable) → AreSorted rows.rows → HasSmallWeights (view_of rows (keyed_table rows.rows heads) c) → AreSmallAt (heads_placed heads.entries) rows.rows
  rest_small rows heads sorted h = small_placed (heads_placed heads.entries) rows.rows (subst (AllByRecursion (λ row. IfSome (newest_value row.1) (λ weight. weight ≤ MAX_WEIGHT))) (placed_versions (heads_placed heads.entries) rows.rows sorted) h)

  -- the parts of a woken segment show the woken rows
  pub wake_view : (low high : Key) (words : List Row) (heads : PlaceTable) (count : ℕ) → AreSorted (plain_rows words) → count ≡ length words → AgreeWith (resting_places c count (heads_placed heads.entries)) words
      → view_of (record { low = low; high = high; rows = plain_rows words }) (keyed_table (plain_rows words) heads) c ≡ woken (resting_view c heads count) low high words
  wake_view low high words heads count sorted len agree = λ i. record {
    low = low;
    high = high;
    rows = (placed_versions (heads_placed heads.entries) (plain_rows words) sorted
        ∙ woken_placed (heads_placed heads.entries) words (subst (λ n. AgreeWith (resting_places c n (heads_placed heads.entries)) words) len agree)
        ∙ ap (λ n. woken_rows (resting_places c n (heads_placed heads.entries)) words) (sym len)) i;
    spare = min c.spare heads.spare;
  }

  -- as many rows are at rest as there are places
  pub count_places : (count : ℕ) (f : ℕ → Heads) → length (resting_places c count f) ≡ count
  count_places zero f = refl
  count_places (suc n) f = ap suc (count_places n (λ p. f (suc p)))

  -- none of them has a newest value
  pub erased_places : (count : ℕ) (f : ℕ → Heads) → AreErased (resting_places c count f)
  erased_places zero f = tt
  erased_places (suc n) f = (erased_list None (list_at c (f 0).undos) (list_at c (f 0).touches), erased_places n (λ p. f (suc p)))

-- as many rows wake as are at rest
pub agree_length : (hs : List RestingRow) (rows : List Row) → AgreeWith hs rows → length hs ≡ length rows
agree_length [] [] h = refl
agree_length [] (r ∷ rs) h = absurd h
agree_length (x ∷ xs) [] h = absurd h
agree_length (x ∷ xs) (r ∷ rs) h = ap suc (agree_length xs rs h.1)

-- ---- rows with other weights

-- rows with other weights have the same keys
plain_above : (k : Key) (rows : List Row) → AreAbove k rows → AreAbove k (plain_rows rows)
plain_above k [] h = tt
plain_above k (r ∷ rs) h = (h.0, plain_above k rs h.1)

-- so they rise
pub plain_sorted : (rows : List Row) → AreSorted rows → AreSorted (plain_rows rows)
plain_sorted [] h = tt
plain_sorted (r ∷ rs) h = (plain_above r.key rs h.0, plain_sorted rs h.1)

-- and stand between the fence keys
pub plain_within : (low high : Key) (rows : List Row) → AreWithin low high rows → AreWithin low high (plain_rows rows)
plain_within low high [] h = tt
plain_within low high (r ∷ rs) h = (h.0, plain_within low high rs h.1)

-- and are as many
pub plain_length : (rows : List Row) → length (plain_rows rows) ≡ length rows
plain_length [] = refl
plain_length (r ∷ rs) = ap suc (plain_length rs)

-- ---- loops

module _ where
  -- one more row has another weight
  pub reweighed_next : (weigh : ℕ → ℕ → ℕ) (rows : List Row) (p : ℕ) (r : Row) → slice_get rows p ≡ Some r
      → with_weight (reweighed weigh p rows) p (weigh p r.weight) ≡ reweighed weigh (suc p) rows
  reweighed_next weigh [] p r e = cc
  reweighed_next weigh (x ∷ xs) zero r e = let same = some_eq x r e in λ i. record { key = x.key; weight = weigh 0 (sym same i).weight } ∷ xs
  reweighed_next weigh (x ∷ xs) (suc p) r e = ap (λ l. record { key = x.key; weight = weigh 0 x.weight } ∷ l) (reweighed_next (λ q. weigh (suc q)) xs p r e)

  -- the row behind those is as it was
  pub reweighed_get : (weigh : ℕ → ℕ → ℕ) (rows : List Row) (p : ℕ) → slice_get (reweighed weigh p rows) p ≡ slice_get rows p
  reweighed_get weigh rows zero = refl
  reweighed_get weigh [] (suc p) = refl
  reweighed_get weigh (x ∷ xs) (suc p) = reweighed_get (λ q. weigh (suc q)) xs p

  -- there are as many rows
  pub reweighed_length : (weigh : ℕ → ℕ → ℕ) (count : ℕ) (rows : List Row) → length (reweighed weigh count rows) ≡ length rows
  reweighed_length weigh zero rows = refl
  reweighed_length weigh (suc n) [] = refl
  reweighed_length weigh (suc n) (x ∷ xs) = ap suc (reweighed_length (λ q. weigh (suc q)) n xs)

-- as many rows have words as there are rows
pub words_length : (f : ℕ → Heads) (rows : List Row) → length (words_from f rows) ≡ length rows
words_length f [] = refl
words_length f (r ∷ rs) = ap suc (words_length (λ p. f (suc p)) rs)

-- once all rows have the weights that their words tell these are plain
pub plain_all : (rows : List Row) → reweighed (λ p word. weight_in_word word) (length rows) rows ≡ plain_rows rows
plain_all [] = refl
plain_all (r ∷ rs) = ap (λ l. record { key = r.key; weight = weight_in_word r.weight } ∷ l) (plain_all rs)

-- ---- settled rows

-- no row is changed
pub no_heads : (entries : List PlacedRow) → length entries ≡ 0 → (p : ℕ) → heads_placed entries p ≡ settled_heads
no_heads [] none p = refl
no_heads (x ∷ xs) none p = absurd (omega (arith, none))

module _ (c : ChainMap) where
  -- words that agree with settled rows are weights
  pub settled_plain : (count : ℕ) (f : ℕ → Heads) (words : List Row) → ((p : ℕ) → f p ≡ settled_heads) → AgreeWith (resting_places c count f) words → plain_rows words ≡ words
  settled_plain zero f [] same agree = refl
  settled_plain zero f (r ∷ rs) same agree = absurd agree
  settled_plain (suc n) f [] same agree = absurd agree
  settled_plain (suc n) f (r ∷ rs) same agree =
      let unmarked : nat_le mark r.weight ≡ false = agree.0.marked ∙ ap (λ (h : Heads). not (is_empty (resting_at c h).versions.pairs) || not (resting_at c h).has_value) (same 0) in
      λ i. record { key = r.key; weight = cond (unmarked i) (r.weight - mark) r.weight } ∷ settled_plain n (λ p. f (suc p)) rs (λ p. same (suc p)) agree.1 i

  -- settled rows are parts of a segment at rest
  pub settled_parts : (f : ℕ → Heads) (count : ℕ) → ((p : ℕ) → f p ≡ settled_heads) → AreRestingParts c f count
  settled_parts f count same = record {
    heads = λ p. subst (AreHeads c) (sym (same p)) (none_heads c);
    apart = λ p q ne. subst (λ (h : Heads × Heads). AreOthers h.1 h.0.undos h.0.touches) (λ i. (sym (same p) i, sym (same q) i))
        (record { undos_undos = λ k a b. cc; undos_touches = λ k a b. cc; touches_undos = λ k a b. cc; touches_touches = λ k a b. cc });
    rest = λ p. subst HasRest (sym (same p)) (λ e. cc);
    behind = λ p le. same p;
  }

  -- nothing else is left of them
  pub settled_left : (count : ℕ) (f : ℕ → Heads) → ((p : ℕ) → f p ≡ settled_heads) → resting_places c count f ≡ settled_rest count
  settled_left zero f same = refl
  settled_left (suc n) f same = λ i. resting_at c (same 0 i) ∷ settled_left n (λ p. f (suc p)) (λ p. same (suc p)) i

-- a value at a place is within its limit
-- what is kept of heads and records where no row is changed are the heads alone
module _ (c d : ChainMap) (e f : List PlacedRow) (count n : ℕ) (same : f ≡ e) (all : n ≡ count) (records : (e ≡ []) ⊎ (d ≡ c)) where
  pub kept_parts : AreRestingParts c (heads_placed e) count → AreRestingParts d (heads_placed f) n
  kept_parts parts = elim records [
    | inl none ↦ settled_parts d (heads_placed f) n (no_heads f (ap length (same ∙ none)))
    | inr kept ↦ subst (λ (t : ChainMap × List PlacedRow × ℕ). AreRestingParts t.0 (heads_placed t.1) t.2) (λ i. (sym kept i, sym same i, sym all i)) parts
  ]

  pub kept_rows : resting_places d n (heads_placed f) ≡ resting_places c count (heads_placed e)
  kept_rows = elim records [
    | inl none ↦
        settled_left d n (heads_placed f) (no_heads f (ap length (same ∙ none))) ∙ ap settled_rest all
        ∙ sym (settled_left c count (heads_placed e) (no_heads e (ap length none)))
    | inr kept ↦ λ i. resting_places (kept i) (all i) (heads_placed (same i))
  ]

pub small_at : (f : ℕ → Heads) (rows : List Row) (p : ℕ) (r : Row) → AreSmallAt f rows → slice_get rows p ≡ Some r → value_in (f p) r.weight ≡ Some r.weight → r.weight ≤ MAX_WEIGHT
small_at f [] p r h e is = cc
small_at f (x ∷ xs) zero r h e is = let same = some_eq x r e in subst (λ (y : Row). y.weight ≤ MAX_WEIGHT) same (h.0 (subst (λ (y : Row). value_in (f 0) y.weight ≡ Some y.weight) (sym same) is))
small_at f (x ∷ xs) (suc p) r h e is = small_at (λ q. f (suc q)) xs p r h.1 e is

-- the row at a place is there
pub at_index : (rows : List Row) (p : ℕ) (d : Row) → p < length rows → slice_get rows p ≡ Some (get_or rows p d)
at_index rows p d lt = let t = there_at rows p lt in t.1 ∙ ap (λ (r : Row). Some r) (sym (index_of rows p t.0 d t.1))

-- as many rows wake as there are places
pub wake_count : (c : ChainMap) (heads : PlaceTable) (count : ℕ) (resting : RestingRows) (rows : List Row) → resting_view c heads count ≡ resting → AgreeWith resting.rows rows → count ≡ length rows
wake_count c heads count resting rows is agree =
    sym (count_places c count (heads_placed heads.entries)) ∙ agree_length (resting_places c count (heads_placed heads.entries)) rows (subst (λ (r : RestingRows). AgreeWith r.rows rows) (sym is) agree)
