-- One change in the cells in hand, as the rows that a writer holds.
use Rattle.std.proofs.Common.{◌≡◌, ℕ, ◌+◌, ◌-◌, ◌<◌, ◌≤◌, List, length, refl, sym, ◌∙◌, ap, subst, cond, arith, inl, inr, Some}
use Rattle.std.specs.Prelude.{true, false, ◌||◌, slice_get}
use Rattle.graph_model.specs.declared.limits.TheConstants.{SEGMENT_ROWS}
use Rattle.graph_model.specs.declared.row.Key.{Key}
use Rattle.graph_model.specs.declared.journal.TxnName.{TxnName}
use Rattle.graph_model.specs.Effects.{same_key}
use Rattle.graph_model.proofs.TestLemmas.{never}
use Rattle.store_model.specs.Stamped.{StampedVersions}
use Rattle.row_writes.specs.VersionSegmentDeclared.change.RowChange.{RowChange}
use Rattle.row_writes.specs.VersionSegmentDeclared.change.RowChange.TheVariants.{Write, Undo, Touch, Untouch}
use Rattle.row_writes.specs.VersionSegment.Changes.{MayChange, changed, records_for}
use Rattle.row_writes.specs.VersionSegment.Rows.{VersionedRows, ChangesKey, IsSegment, has_row, versions_at}
use Rattle.row_writes.specs.Held.{AllowsChange, Changes, HaveCells, rows_for}
use Rattle.row_writes.proofs.KeyLemmas.{key_self}
use Rattle.store_rule.specs.CellsModel.Indexed.{covers}
use Rattle.pass_cells.specs.declared.taken.TakenCell.{TakenCell}
use Rattle.pass_cells.specs.Taken.{IsPlace, KeepCells, cell_at, changes_words, has_cell, held_rows, rows_come}
use Rattle.pass_cells.proofs.CellLemmas.{at_place, covers_own, covers_same, either_cell, has_same, kept_others, more_come, replaced}
use Rattle.pass_cells.proofs.WordLemmas.{quiet_words}
use Rattle.pass_cells.proofs.RowLemmas.{each, no_more_rows, row_beside, row_stands}

-- a key whose cell is in hand lies in it
pub have_cells : (ts : List TakenCell) → HaveCells (held_rows ts)
have_cells ts k has = covers_own ts k has

-- what allows a change of the rows allows it in the key's cell
pub may_change : (change : RowChange) (by : TxnName) (ts : List TakenCell) (key : Key) → has_cell ts key ≡ true
    → AllowsChange change by (held_rows ts) key → MayChange change by key (cell_at ts key)
may_change (Write value) by ts key has h = record {
  within = covers_own ts key has;
  spare = h.spare;
  room = λ none. let some = h.room none in omega (arith, some);
}
may_change Undo by ts key has h = tt
may_change (Touch earlier) by ts key has h = record { row = h.row; spare = h.spare; never = h.never }
may_change Untouch by ts key has h = tt

module _ (change : RowChange) (by : TxnName) (ts : List TakenCell) (t u : TakenCell) (key : Key) (place : ℕ)
    (is : IsPlace ts key place) (there : slice_get ts place ≡ Some t) (has : has_cell ts key ≡ true)
    (kept : u.rows ≡ t.rows) (sound : IsSegment t.held.value) (sound' : IsSegment u.held.value)
    (may : MayChange change by key t.held.value)
    (step : ChangesKey t.held.value u.held.value key (changed change by (versions_at t.held.value key)))
    (spare : t.held.value.spare ≤ u.held.value.spare + records_for change) where
  abbrev pub us : List TakenCell
  us = replaced key u ts

  own : t.held.value ≡ cell_at ts key
  own = (at_place ts key place t is there).0

  fits : (u.held.value.low ≡ (cell_at ts key).low) × (u.held.value.high ≡ (cell_at ts key).high)
  fits = (step.low ∙ ap (λ (c : VersionedRows). c.low) own, step.high ∙ ap (λ (c : VersionedRows). c.high) own)

  -- of each key
  by_cell : (P : Key → VersionedRows → VersionedRows → Type 0) → ((q : Key) → P q t.held.value u.held.value)
      → ((q : Key) (c : VersionedRows) → same_key q key ≡ false → P q c c)
      → (q : Key) → P q (cell_at ts q) (cell_at us q)
  by_cell P here else q =
      elim (either_cell key u ts has fits q) as (λ _. P q (cell_at ts q) (cell_at us q)) [
        | inl h ↦ subst (λ (x : VersionedRows × VersionedRows). P q x.0 x.1) (λ i. (sym (h.0 ∙ sym own) i, sym h.1 i))
            (here q)
        | inr h ↦ subst (λ c. P q (cell_at ts q) c) (sym h.0) (else q (cell_at ts q) h.1)
      ]

  same_fences : (q : Key) → ((cell_at us q).low ≡ (cell_at ts q).low) × ((cell_at us q).high ≡ (cell_at ts q).high)
  same_fences = by_cell (λ q c d. (d.low ≡ c.low) × (d.high ≡ c.high)) (λ q. (step.low, step.high))
      (λ q c e. (refl, refl))

  beside : (q : Key) (vs : StampedVersions) → same_key q key ≡ false
      → vs ≡ cond (same_key q key) (changed change by vs) vs
  beside q vs e = sym (ap (λ b. cond b (changed change by vs) vs) e)

  few : length u.held.value.rows ≤ length t.held.value.rows + rows_for change (has_row t.held.value key)
  few = no_more_rows change by t.held.value u.held.value key sound sound' step may

  pub changes : Changes change by (held_rows ts) (held_rows us) key
  changes = record {
    versions = by_cell (λ q c d. versions_at d q ≡ cond (same_key q key) (changed change by (versions_at c q))
        (versions_at c q))
        (each change by t.held.value u.held.value key sound sound' step) (λ q c e. beside q (versions_at c q) e);
    others = by_cell (λ q c d. same_key q key ≡ false → has_row d q ≡ has_row c q)
        (row_beside change by t.held.value u.held.value key sound sound' step) (λ q c e f. refl);
    stands = λ put. stands put;
    holds = has_same key u ts has fits;
    shares = λ p q. covers_same (cell_at us p) (cell_at ts p) (same_fences p).0 (same_fences p).1 q;
    room = by_cell (λ q c d. SEGMENT_ROWS - length c.rows ≤ SEGMENT_ROWS - length d.rows + cond (covers c key)
        (rows_for change (has_row (cell_at ts key) key)) 0)
        here_room (λ q c e. omega arith);
    spare = by_cell (λ q c d. c.spare ≤ d.spare + records_for change) (λ q. spare) (λ q c e. omega arith);
    weight = subst (λ c. rows_come us ≤ rows_come ts + rows_for change (has_row c key)) own
        (more_come key u ts t place _ is there kept few);
  }
    where
      here_room : (q : Key) → SEGMENT_ROWS - length t.held.value.rows ≤ SEGMENT_ROWS - length u.held.value.rows + cond
          (covers t.held.value key) (rows_for change (has_row (cell_at ts key) key)) 0
      here_room q = subst (λ b. SEGMENT_ROWS - length t.held.value.rows ≤ SEGMENT_ROWS - length u.held.value.rows +
          cond b (rows_for change (has_row (cell_at ts key) key)) 0)
          (sym (at_place ts key place t is there).1)
          (subst (λ c. SEGMENT_ROWS - length t.held.value.rows ≤ SEGMENT_ROWS - length u.held.value.rows + rows_for
          change (has_row c key)) own (omega (arith, few)))

      stands : 0 < records_for change → has_row (cell_at us key) key ≡ true
      stands put = by_cell (λ q c d. same_key q key ≡ true → has_row d key ≡ true)
          (λ q e. row_stands change by t.held.value u.held.value key sound sound' step may put)
          (λ q c e f. never (same_key q key) f e) key (key_self key)

  pub keeps : u.held.cell ≡ t.held.cell → u.held.changed ≡ true → u.words_changed ≡ (changes_words change || t.words_changed) → KeepCells ts us
  keeps cell set marked = kept_others key u ts t place is there (record {
    cell = cell;
    rows = kept;
    low = step.low;
    high = step.high;
    sound = λ s. sound';
    unmarked = λ e. never u.held.changed set e;
    same = quiet_words change by t.held.value u.held.value key sound step may t.words_changed u.words_changed marked;
  })
