-- Rows of one segment: which are there, how many, and what one change makes of them.
use Rattle.std.proofs.Common.{◌≡◌, ℕ, ◌+◌, ◌<◌, ◌≤◌, List, [], ◌∷◌, ◌++◌, drop, length, refl, sym, ◌∙◌, ap, cond, arith, Some, None}
use Rattle.std.specs.Prelude.{Bool, true, false, ◌&&◌, not, is_some, T}
use Rattle.std.specs.List.{AllByRecursion, filter}
use Rattle.std.specs.Ordering.{eq_by_cmp}
use Rattle.std.specs.FinMap.Entries.{find, put, where_key, is_sorted, below_all, length-put}
use Rattle.graph_model.specs.declared.row.Key.{Key}
use Rattle.graph_model.specs.declared.journal.TxnName.{TxnName}
use Rattle.graph_model.specs.Conflict.{same_name}
use Rattle.graph_model.specs.Effects.{same_key}
use Rattle.graph_model.specs.Rows.{key_cmp, is_below}
use Rattle.graph_model.proofs.OrderLemmas.{key_tie, keys_total}
use Rattle.store_model.specs.Stamped.{Stamped, StampedVersions}
use Rattle.row_writes.specs.VersionSegmentDeclared.change.RowChange.{RowChange}
use Rattle.row_writes.specs.VersionSegmentDeclared.change.RowChange.TheVariants.{Write, Undo, Touch, Untouch}
use Rattle.row_writes.specs.VersionSegment.Changes.{MayChange, changed, records_for}
use Rattle.row_writes.specs.VersionSegment.Keyed.{RisesBy}
use Rattle.row_writes.specs.VersionSegment.Rows.{VersionedRows, ChangesKey, IsSegment, has_row, is_empty, is_nothing, or_nothing, versions_at, with_versions, new_record, has_record, undone, touched, untouched}
use Rattle.row_writes.proofs.VersionSegment.LawLemmas.{key_changed}
use Rattle.row_writes.specs.Held.{rows_for}
use Rattle.row_writes.proofs.KeyLemmas.{key_eq, key_self}

-- ---- which rows are there

-- a row that is there is something
row_is_something : (rows : List (Key × StampedVersions)) (k : Key)
    → AllByRecursion (λ row. is_nothing row.1 ≡ false) rows
    → is_some (find key_cmp k rows) ≡ not (is_nothing (or_nothing (find key_cmp k rows)))
row_is_something [] k all = refl
row_is_something (row ∷ rows) k all = go (eq_by_cmp key_cmp k row.0) (row_is_something rows k all.1)
  where
    go : (t : Bool) → is_some (find key_cmp k rows) ≡ not (is_nothing (or_nothing (find key_cmp k rows)))
        → is_some (cond t (Some row.1) (find key_cmp k rows)) ≡ not
        (is_nothing (or_nothing (cond t (Some row.1) (find key_cmp k rows))))
    go true rest = sym (ap not all.0)
    go false rest = rest

-- so whether a key has a row is told by its versions
pub row_by_versions : (s : VersionedRows) (k : Key) → IsSegment s → has_row s k ≡ not (is_nothing (versions_at s k))
row_by_versions s k sound = row_is_something s.rows k sound.something

-- rising keys are sorted
pub rises_sorted : (rows : List (Key × StampedVersions)) → RisesBy (λ row. row.0) rows → T (is_sorted key_cmp rows)
rises_sorted [] h = tt
rises_sorted (row ∷ rows) h =
    both (below_all key_cmp row.0 rows) (is_sorted key_cmp rows) (below rows h.0) (rises_sorted rows h.1)
  where
    both : (s t : Bool) → T s → T t → T (s && t)
    both true t a b = b
    both false t a b = a

    below : (es : List (Key × StampedVersions)) → AllByRecursion (λ e. is_below row.0 e.0 ≡ true) es
        → T (below_all key_cmp row.0 es)
    below [] h = tt
    below (e ∷ es) h = both (is_below row.0 e.0) (below_all key_cmp row.0 es) (rw h.0 tt) (below es h.1)

fewer : (p : Key × StampedVersions → Bool) (rows : List (Key × StampedVersions)) → length (filter p rows) ≤ length rows
fewer p [] = omega arith
fewer p (row ∷ rows) = go (p row) (fewer p rows)
  where
    go : (t : Bool) → length (filter p rows) ≤ length rows
        → length (cond t (row ∷ filter p rows) (filter p rows)) ≤ length (row ∷ rows)
    go true h = omega arith
    go false h = omega arith

-- a change of one key adds a row at most, and none where the key has one or its versions are nothing
pub row_count : (c : VersionedRows) (key : Key) (vs : StampedVersions) → IsSegment c
    → length (with_versions key vs c.rows) ≤ length c.rows + cond (not (has_row c key) && not (is_nothing vs)) 1 0
row_count c key vs sound = go (is_nothing vs) (is_some (find key_cmp key c.rows)) refl
  where
    go : (t there : Bool) → is_some (find key_cmp key c.rows) ≡ there
        → length (cond t (where_key key_cmp (λ q. not (eq_by_cmp key_cmp key q)) c.rows)
        (put key_cmp key vs c.rows)) ≤ length c.rows + cond (not there && not t) 1 0
    go true there e =
        let few = fewer (λ row. not (eq_by_cmp key_cmp key row.0)) c.rows in
        none there (length (where_key key_cmp (λ q. not (eq_by_cmp key_cmp key q)) c.rows)) few
      where
        none : (there : Bool) (n : ℕ) → n ≤ length c.rows → n ≤ length c.rows + cond (not there && not true) 1 0
        none true n h = omega arith
        none false n h = omega arith
    go false there e =
        let len = length-put key_cmp keys_total key vs c.rows (rises_sorted c.rows sound.rising) in
        count there (length (put key_cmp key vs c.rows)) (len ∙ ap (λ t. cond t (length c.rows) (length c.rows + 1)) e)
      where
        count : (there : Bool) (n : ℕ) → n ≡ cond there (length c.rows) (length c.rows + 1)
            → n ≤ length c.rows + cond (not there && not false) 1 0
        count true n h = omega (arith, h)
        count false n h = omega (arith, h)

-- a row that is touched is something
pub touched_is_something : (by : TxnName) (vs : StampedVersions) → is_nothing vs ≡ false
    → is_nothing (touched by vs) ≡ false
touched_is_something by vs some = pairs (is_empty vs.pairs) refl
  where
    left : (ts : List Stamped) (t : Bool) → is_empty ts ≡ false
        → is_empty (cond t ts (ts ++ new_record by None ∷ [])) ≡ false
    left ts true h = h
    left [] false h = cc
    left (x ∷ xs) false h = refl

    touches : (t : Bool) → is_empty vs.touches ≡ t → (is_empty vs.touches && not (is_some vs.oldest)) ≡ false
        → (is_empty (touched by vs).touches && not (is_some vs.oldest)) ≡ false
    touches false e h = ap (λ t. t && not (is_some vs.oldest)) (left vs.touches (has_record by vs.touches) e)
    touches true e h = last (is_empty (touched by vs).touches) (not (is_some vs.oldest))
        (ap (λ t. t && not (is_some vs.oldest)) (sym e) ∙ h)
      where
        last : (s t : Bool) → t ≡ false → (s && t) ≡ false
        last true t e = e
        last false t e = refl

    pairs : (t : Bool) → is_empty vs.pairs ≡ t → is_nothing (touched by vs) ≡ false
    pairs false e = ap (λ t. t && (is_empty (touched by vs).touches && not (is_some vs.oldest))) e
    pairs true e =
        ap (λ t. t && (is_empty (touched by vs).touches && not (is_some vs.oldest))) e
        ∙ touches (is_empty vs.touches) refl (ap (λ t. t && (is_empty vs.touches && not (is_some vs.oldest))) (sym e)
        ∙ some)

-- where there is nothing, nothing is left
undone_nothing : (vs : StampedVersions) → is_nothing vs ≡ true → is_nothing (undone vs) ≡ true
undone_nothing vs e = go vs.pairs e
  where
    go : (ps : List Stamped) → (is_empty ps && (is_empty vs.touches && not (is_some vs.oldest))) ≡ true
        → (is_empty (drop 1 ps) && (is_empty vs.touches && not (is_some vs.oldest))) ≡ true
    go [] h = h
    go (p ∷ ps) h = cc

untouched_nothing : (by : TxnName) (vs : StampedVersions) → is_nothing vs ≡ true → is_nothing (untouched by vs) ≡ true
untouched_nothing by vs e = go vs.touches e
  where
    no_touches : (s : Bool) (x : Bool) → (s && (false && x)) ≡ true → ⊥
    no_touches true x h = cc
    no_touches false x h = cc

    go : (ts : List Stamped) → (is_empty vs.pairs && (is_empty ts && not (is_some vs.oldest))) ≡ true
        → (is_empty vs.pairs && (is_empty (filter (λ p. not (same_name p.by by)) ts) && not (is_some vs.oldest))) ≡ true
    go [] h = h
    go (p ∷ ps) h = absurd (no_touches (is_empty vs.pairs) (not (is_some vs.oldest)) h)

-- ---- one change

module _ (change : RowChange) (by : TxnName) (old new : VersionedRows) (key : Key) (sound : IsSegment old)
    (sound' : IsSegment new)
    (step : ChangesKey old new key (changed change by (versions_at old key))) where
  -- the versions of each key
  pub each : (q : Key) → versions_at new q ≡ cond (same_key q key) (changed change by (versions_at old q))
      (versions_at old q)
  each q = key_changed old new key (changed change by (versions_at old key)) step q
      ∙ (λ i. cond (key_tie q key i) (changed change by (versions_at old key)) (versions_at old q))
      ∙ here (same_key q key) refl
    where
      here : (t : Bool) → same_key q key ≡ t
          → cond t (changed change by (versions_at old key)) (versions_at old q) ≡ cond t
          (changed change by (versions_at old q)) (versions_at old q)
      here true e = ap (λ k. changed change by (versions_at old k)) (sym (key_eq q key e))
      here false e = refl

  -- where the key has no row it has nothing
  nothing_there : has_row old key ≡ false → is_nothing (versions_at old key) ≡ true
  nothing_there none = not_false (is_nothing (versions_at old key)) (sym (row_by_versions old key sound) ∙ none)
    where
      not_false : (t : Bool) → not t ≡ false → t ≡ true
      not_false true h = refl
      not_false false h = cc

  something_there : has_row old key ≡ true → is_nothing (versions_at old key) ≡ false
  something_there has = not_true (is_nothing (versions_at old key)) (sym (row_by_versions old key sound) ∙ has)
    where
      not_true : (t : Bool) → not t ≡ true → t ≡ false
      not_true true h = cc
      not_true false h = refl

  -- only a write brings a row
  few : (made : RowChange) → MayChange made by key old
      → cond {A = ℕ} (not (has_row old key) && not (is_nothing (changed made by (versions_at old key)))) 1 0 ≤
      rows_for made (has_row old key)
  few (Write value) may = one (has_row old key)
    where
      one : (t : Bool) → cond {A = ℕ} (not t && true) 1 0 ≤ cond {A = ℕ} t 0 1
      one true = omega arith
      one false = omega arith
  few Undo may = none (has_row old key) refl
    where
      none : (t : Bool) → has_row old key ≡ t
          → cond {A = ℕ} (not t && not (is_nothing (undone (versions_at old key)))) 1 0 ≤ 0
      none true e = omega arith
      none false e = rw (undone_nothing (versions_at old key) (nothing_there e)) (omega arith)
  few (Touch earlier) may = rw may.row (omega arith)
  few Untouch may = none (has_row old key) refl
    where
      none : (t : Bool) → has_row old key ≡ t
          → cond {A = ℕ} (not t && not (is_nothing (untouched by (versions_at old key)))) 1 0 ≤ 0
      none true e = omega arith
      none false e = rw (untouched_nothing by (versions_at old key) (nothing_there e)) (omega arith)

  pub no_more_rows : MayChange change by key old → length new.rows ≤ length old.rows + rows_for change (has_row old key)
  no_more_rows may =
      let one : length new.rows ≤ length old.rows + cond
      (not (has_row old key) && not (is_nothing (changed change by (versions_at old key)))) 1 0
      = rw step.rows (row_count old key (changed change by (versions_at old key)) sound) in
      let two = few change may in
      omega (arith, one, two)

  -- a record that was put is something
  some : (made : RowChange) → MayChange made by key old → 0 < records_for made
      → is_nothing (changed made by (versions_at old key)) ≡ false
  some (Write value) may put = refl
  some Undo may put = absurd (omega (arith, put))
  some (Touch earlier) may put = touched_is_something by (versions_at old key) (something_there may.row)
  some Untouch may put = absurd (omega (arith, put))

  pub row_stands : MayChange change by key old → 0 < records_for change → has_row new key ≡ true
  row_stands may put = row_by_versions new key sound' ∙ ap (λ vs. not (is_nothing vs)) (each key ∙ own)
      ∙ ap not (some change may put)
    where
      own : cond (same_key key key) (changed change by (versions_at old key))
          (versions_at old key) ≡ changed change by (versions_at old key)
      own = ap (λ t. cond t (changed change by (versions_at old key)) (versions_at old key)) (key_self key)

  pub row_beside : (q : Key) → same_key q key ≡ false → has_row new q ≡ has_row old q
  row_beside q e = row_by_versions new q sound'
      ∙ ap (λ vs. not (is_nothing vs))
      (each q ∙ ap (λ t. cond t (changed change by (versions_at old q)) (versions_at old q)) e)
      ∙ sym (row_by_versions old q sound)
