-- What a change of one key's versions does to all rows.
use Rattle.std.proofs.Common.{◌≡◌, ℕ, ◌+◌, ◌-◌, ◌<◌, ◌≤◌, List, [], ◌∷◌, ◌++◌, drop, length, refl, sym, ◌∙◌, ap, cond, arith, None}
use Rattle.std.specs.Prelude.{Bool, true, false, ◌&&◌, not, is_some}
use Rattle.std.specs.List.{filter}
use Rattle.std.specs.FinMap.Entries.{find}
use Rattle.graph_model.specs.declared.limits.TheConstants.{SEGMENT_ROWS}
use Rattle.graph_model.specs.declared.row.Key.{Key}
use Rattle.graph_model.specs.declared.journal.TxnName.{TxnName}
use Rattle.graph_model.specs.Conflict.{same_name}
use Rattle.graph_model.specs.Effects.{same_key}
use Rattle.graph_model.specs.Rows.{key_cmp, is_below, is_between, end_key}
use Rattle.graph_model.proofs.OrderLemmas.{key_tie}
use Rattle.graph_model.proofs.TestLemmas.{never}
use Rattle.store_model.specs.Stamped.{Stamped, StampedVersions}
use Rattle.row_writes.specs.VersionSegmentDeclared.change.RowChange.{RowChange}
use Rattle.row_writes.specs.VersionSegmentDeclared.change.RowChange.TheVariants.{Write, Undo, Touch, Untouch}
use Rattle.row_writes.specs.VersionSegment.Changes.{MayChange, changed, records_for}
use Rattle.row_writes.specs.VersionSegment.Rows.{VersionedRows, is_empty, is_nothing, or_nothing, versions_at, new_record, has_record, undone, touched, untouched}
use Rattle.row_writes.proofs.VersionSegment.LawLemmas.{key_changed}
use Rattle.leaf_store.specs.Leaves.{Leaves, AreLeaves, KeysHaveCells, CellsAreApart, cell_at, shares, versions_of, has_row, room_at}
use Rattle.leaf_store.specs.Changes.{ChangesVersions, KeepsCells, KeepsRecordRoom, UsesRecords}
use Rattle.row_writes.specs.Held.{AllowsChange, Changes, Reserves, rows_for}
use Rattle.row_writes.proofs.KeyLemmas.{key_eq, key_self}
use Rattle.leaf_rows.specs.Held.{rows_in}
use Rattle.leaf_rows.specs.Readers.{HaveNoStamp, AreUnstamped}
use Rattle.leaf_rows.proofs.CellLemmas.{cell_sound, row_by_versions, rows_by_versions, row_count, fences_stay, shares_flip}

-- ---- the versions of one key

module _ (old new : Leaves) (key : Key) (vs : StampedVersions) (sound : AreLeaves old) (there : KeysHaveCells old) (apart : CellsAreApart old) (within : is_below key end_key ≡ true) (change : ChangesVersions old new key vs) where
  pub new_versions : (q : Key) → versions_of new q ≡ cond (same_key q key) vs (versions_of old q)
  new_versions q = go (shares old key q) refl
    where
      go : (t : Bool) → shares old key q ≡ t → versions_of new q ≡ cond (same_key q key) vs (versions_of old q)
      go true e =
          ap (λ (c : VersionedRows). versions_at c q) (change.1.here q e)
          ∙ key_changed (cell_at old key) change.0 key vs change.2 q
          ∙ (λ i. cond (key_tie q key i) vs (versions_at (sym (apart key q e) i) q))
      go false e =
          ap (λ (c : VersionedRows). versions_at c q) (change.1.others q e)
          ∙ sym (ap (λ t. cond t vs (versions_of old q)) (other (same_key q key) refl))
        where
          other : (t : Bool) → same_key q key ≡ t → same_key q key ≡ false
          other true h = never (shares old key q) (ap (shares old key) (key_eq q key h) ∙ there key within) e
          other false h = h

  pub no_more_rows : length (change.0).rows ≤ length (cell_at old key).rows + cond (not (has_row old key) && not (is_nothing vs)) 1 0
  no_more_rows = rw change.2.rows (row_count (cell_at old key) key vs (cell_sound old key sound))

  -- the room of each cell, of which the key's may have a row more
  pub new_room : (n : ℕ) → length (change.0).rows ≤ length (cell_at old key).rows + n → (q : Key) → room_at old q ≤ room_at new q + cond (shares old key q) n 0
  new_room n few q = go (shares old key q) refl
    where
      go : (t : Bool) → shares old key q ≡ t → room_at old q ≤ room_at new q + cond t n 0
      go true e =
          let now : length (cell_at new q).rows ≡ length (change.0).rows = ap (λ (c : VersionedRows). length c.rows) (change.1.here q e) in
          let before : length (cell_at old q).rows ≡ length (cell_at old key).rows = ap (λ (c : VersionedRows). length c.rows) (apart key q e) in
          omega (arith, few, now, before)
      go false e =
          let same : length (cell_at new q).rows ≡ length (cell_at old q).rows = ap (λ (c : VersionedRows). length c.rows) (change.1.others q e) in
          omega (arith, same)

  pub new_fences : (p q : Key) → shares new p q ≡ shares old p q
  new_fences p q = fences_stay old new key change.0 apart change.1 p q

-- ---- what a change makes of versions

-- no stamp is put
unstamped_pairs : (change : RowChange) (by : TxnName) (vs : StampedVersions) → HaveNoStamp vs.pairs → HaveNoStamp (changed change by vs).pairs
unstamped_pairs (Write value) by vs none = (refl, none)
unstamped_pairs Undo by vs none = rest vs.pairs none
  where
    rest : (ps : List Stamped) → HaveNoStamp ps → HaveNoStamp (drop 1 ps)
    rest [] h = tt
    rest (p ∷ ps) h = h.1
unstamped_pairs (Touch earlier) by vs none = none
unstamped_pairs Untouch by vs none = none

unstamped_touches : (change : RowChange) (by : TxnName) (vs : StampedVersions) → HaveNoStamp vs.touches → HaveNoStamp (changed change by vs).touches
unstamped_touches (Write value) by vs none = none
unstamped_touches Undo by vs none = none
unstamped_touches (Touch earlier) by vs none = one_more (has_record by vs.touches) none
  where
    at_end : (ps : List Stamped) → HaveNoStamp ps → HaveNoStamp (ps ++ new_record by None ∷ [])
    at_end [] h = (refl, tt)
    at_end (p ∷ ps) h = (h.0, at_end ps h.1)

    one_more : (t : Bool) → HaveNoStamp vs.touches → HaveNoStamp (cond t vs.touches (vs.touches ++ new_record by None ∷ []))
    one_more true h = h
    one_more false h = at_end vs.touches h
unstamped_touches Untouch by vs none = kept vs.touches none
  where
    kept : (ps : List Stamped) → HaveNoStamp ps → HaveNoStamp (filter (λ p. not (same_name p.by by)) ps)
    kept [] h = tt
    kept (p ∷ ps) h = go (same_name p.by by) (kept ps h.1)
      where
        go : (t : Bool) → HaveNoStamp (filter (λ q. not (same_name q.by by)) ps) → HaveNoStamp (cond (not t) (p ∷ filter (λ q. not (same_name q.by by)) ps) (filter (λ q. not (same_name q.by by)) ps))
        go true g = g
        go false g = (h.0, g)

-- a row that is touched is something
touched_is_something : (by : TxnName) (vs : StampedVersions) → is_nothing vs ≡ false → is_nothing (touched by vs) ≡ false
touched_is_something by vs some = pairs (is_empty vs.pairs) refl
  where
    left : (ts : List Stamped) (t : Bool) → is_empty ts ≡ false → is_empty (cond t ts (ts ++ new_record by None ∷ [])) ≡ false
    left ts true h = h
    left [] false h = cc
    left (x ∷ xs) false h = refl

    touches : (t : Bool) → is_empty vs.touches ≡ t → (is_empty vs.touches && not (is_some vs.oldest)) ≡ false → (is_empty (touched by vs).touches && not (is_some vs.oldest)) ≡ false
    touches false e h = ap (λ t. t && not (is_some vs.oldest)) (left vs.touches (has_record by vs.touches) e)
    touches true e h = last (is_empty (touched by vs).touches) (not (is_some vs.oldest)) (ap (λ t. t && not (is_some vs.oldest)) (sym e) ∙ h)
      where
        last : (s t : Bool) → t ≡ false → (s && t) ≡ false
        last true t e = e
        last false t e = refl

    pairs : (t : Bool) → is_empty vs.pairs ≡ t → is_nothing (touched by vs) ≡ false
    pairs false e = ap (λ t. t && (is_empty (touched by vs).touches && not (is_some vs.oldest))) e
    pairs true e =
        ap (λ t. t && (is_empty (touched by vs).touches && not (is_some vs.oldest))) e
        ∙ touches (is_empty vs.touches) refl (ap (λ t. t && (is_empty vs.touches && not (is_some vs.oldest))) (sym e) ∙ some)

-- where there is nothing, nothing is left
undone_nothing : (vs : StampedVersions) → is_nothing vs ≡ true → is_nothing (undone vs) ≡ true
undone_nothing vs e = go vs.pairs e
  where
    go : (ps : List Stamped) → (is_empty ps && (is_empty vs.touches && not (is_some vs.oldest))) ≡ true → (is_empty (drop 1 ps) && (is_empty vs.touches && not (is_some vs.oldest))) ≡ true
    go [] h = h
    go (p ∷ ps) h = cc

untouched_nothing : (by : TxnName) (vs : StampedVersions) → is_nothing vs ≡ true → is_nothing (untouched by vs) ≡ true
untouched_nothing by vs e = go vs.touches e
  where
    no_touches : (s : Bool) (x : Bool) → (s && (false && x)) ≡ true → ⊥
    no_touches true x h = cc
    no_touches false x h = cc

    go : (ts : List Stamped) → (is_empty vs.pairs && (is_empty ts && not (is_some vs.oldest))) ≡ true
        → (is_empty vs.pairs && (is_empty (filter (λ p. not (same_name p.by by)) ts) && not (is_some vs.oldest))) ≡ true
    go [] h = h
    go (p ∷ ps) h = absurd (no_touches (is_empty vs.pairs) (not (is_some vs.oldest)) h)

-- ---- one change

-- what allows a change of the rows allows it in the key's cell
pub may_change : (change : RowChange) (by : TxnName) (s : Leaves) (key : Key) → KeysHaveCells s → is_below key end_key ≡ true
    → AllowsChange change by (rows_in s) key → MayChange change by key (cell_at s key)
may_change (Write value) by s key there within h = record {
  within = there key within;
  spare = h.spare;
  room = λ none. let some = h.room none in omega (arith, some);
}
may_change Undo by s key there within h = tt
may_change (Touch earlier) by s key there within h = record { row = h.row; spare = h.spare; never = h.never }
may_change Untouch by s key there within h = tt

module _ (change : RowChange) (by : TxnName) (old new : Leaves) (key : Key) (sound : AreLeaves old) (sound' : AreLeaves new) (there : KeysHaveCells old) (apart : CellsAreApart old)
    (within : is_below key end_key ≡ true) (step : ChangesVersions old new key (changed change by (versions_of old key))) where
  each : (q : Key) → versions_of new q ≡ cond (same_key q key) (changed change by (versions_of old q)) (versions_of old q)
  each q = new_versions old new key (changed change by (versions_of old key)) sound there apart within step q ∙ here (same_key q key) refl
    where
      here : (t : Bool) → same_key q key ≡ t → cond t (changed change by (versions_of old key)) (versions_of old q) ≡ cond t (changed change by (versions_of old q)) (versions_of old q)
      here true e = ap (λ k. changed change by (versions_of old k)) (sym (key_eq q key e))
      here false e = refl

  pub stays_unstamped : AreUnstamped old → AreUnstamped new
  stays_unstamped none = record { pairs = λ q. rw (each q) (pairs (same_key q key) q); touches = λ q. rw (each q) (touches (same_key q key) q) }
    where
      pairs : (t : Bool) (q : Key) → HaveNoStamp (cond t (changed change by (versions_of old q)) (versions_of old q)).pairs
      pairs true q = unstamped_pairs change by (versions_of old q) (none.pairs q)
      pairs false q = none.pairs q

      touches : (t : Bool) (q : Key) → HaveNoStamp (cond t (changed change by (versions_of old q)) (versions_of old q)).touches
      touches true q = unstamped_touches change by (versions_of old q) (none.touches q)
      touches false q = none.touches q

  -- where the key has no row it has nothing
  nothing_there : has_row old key ≡ false → is_nothing (versions_of old key) ≡ true
  nothing_there none = not_false (is_nothing (versions_of old key)) (sym (row_by_versions old key sound) ∙ none)
    where
      not_false : (t : Bool) → not t ≡ false → t ≡ true
      not_false true h = refl
      not_false false h = cc

  something_there : has_row old key ≡ true → is_nothing (versions_of old key) ≡ false
  something_there has = not_true (is_nothing (versions_of old key)) (sym (row_by_versions old key sound) ∙ has)
    where
      not_true : (t : Bool) → not t ≡ true → t ≡ false
      not_true true h = cc
      not_true false h = refl

  -- only a write brings a row
  few : (made : RowChange) → AllowsChange made by (rows_in old) key → cond {A = ℕ} (not (has_row old key) && not (is_nothing (changed made by (versions_of old key)))) 1 0 ≤ rows_for made (has_row old key)
  few (Write value) may = one (has_row old key)
    where
      one : (t : Bool) → cond {A = ℕ} (not t && true) 1 0 ≤ cond {A = ℕ} t 0 1
      one true = omega arith
      one false = omega arith
  few Undo may = none (has_row old key) refl
    where
      none : (t : Bool) → has_row old key ≡ t → cond {A = ℕ} (not t && not (is_nothing (undone (versions_of old key)))) 1 0 ≤ 0
      none true e = omega arith
      none false e = rw (undone_nothing (versions_of old key) (nothing_there e)) (omega arith)
  few (Touch earlier) may = rw may.row (omega arith)
  few Untouch may = none (has_row old key) refl
    where
      none : (t : Bool) → has_row old key ≡ t → cond {A = ℕ} (not t && not (is_nothing (untouched by (versions_of old key)))) 1 0 ≤ 0
      none true e = omega arith
      none false e = rw (untouched_nothing by (versions_of old key) (nothing_there e)) (omega arith)

  -- a record that was put is something
  some : (made : RowChange) → AllowsChange made by (rows_in old) key → 0 < records_for made → is_nothing (changed made by (versions_of old key)) ≡ false
  some (Write value) may put = refl
  some Undo may put = absurd (omega (arith, put))
  some (Touch earlier) may put = touched_is_something by (versions_of old key) (something_there may.row)
  some Untouch may put = absurd (omega (arith, put))

  pub changes : AllowsChange change by (rows_in old) key → UsesRecords (records_for change) old new → Changes change by (rows_in old) (rows_in new) key
  changes may uses = record {
    versions = each;
    others = λ q e. rows_by_versions old new sound sound' q (each q ∙ ap (λ t. cond t (changed change by (versions_of old q)) (versions_of old q)) e);
    stands = λ put. row_by_versions new key sound' ∙ ap (λ vs. not (is_nothing vs)) (each key ∙ own) ∙ ap not (some change may put);
    holds = λ q. refl;
    shares = new_fences old new key _ sound there apart within step;
    room = λ q. room q (shares old key q) refl;
    spare = uses;
    weight = omega (arith, more, step.1.weight);
  }
    where
      own : cond (same_key key key) (changed change by (versions_of old key)) (versions_of old key) ≡ changed change by (versions_of old key)
      own = ap (λ t. cond t (changed change by (versions_of old key)) (versions_of old key)) (key_self key)

      more : length (step.0).rows ≤ length (cell_at old key).rows + rows_for change (has_row old key)
      more =
          let one = no_more_rows old new key _ sound there apart within step in
          let two = few change may in
          omega (arith, one, two)

      room : (q : Key) (t : Bool) → shares old key q ≡ t → room_at old q ≤ room_at new q + cond (shares old q key) (rows_for change (has_row old key)) 0
      room q true e =
          let h : room_at old q ≤ room_at new q + rows_for change (has_row old key) = rw e at (new_room old new key _ sound there apart within step (rows_for change (has_row old key)) more q) in
          rw (shares_flip old there apart key q within e) h
      room q false e =
          let h : room_at old q ≤ room_at new q + 0 = rw e at (new_room old new key _ sound there apart within step (rows_for change (has_row old key)) more q) in
          omega (arith, h)

-- ---- room for records

-- what keeps the cells but for their room for records
pub reserves : (old new : Leaves) → KeepsCells old new → KeepsRecordRoom old new → Reserves (rows_in old) (rows_in new)
reserves old new cells room = record {
  versions = λ q. ap (λ rows. or_nothing (find key_cmp q rows)) (cells.cells q).rows;
  rows = λ q. ap (λ rows. is_some (find key_cmp q rows)) (cells.cells q).rows;
  holds = λ q. refl;
  shares = λ p q. λ i. is_between ((cells.cells p).low i) ((cells.cells p).high i) q;
  room = λ q. ap (λ rows. SEGMENT_ROWS - length rows) (cells.cells q).rows;
  spare = room;
  weight = cells.weight;
}
