-- Scans, cell by cell.
use Rattle.std.proofs.Common.{◌≡◌, ℕ, ◌<◌, List, [], ◌∷◌, length, refl, sym, ◌∙◌, ap, cond, inl}
use Rattle.std.specs.Prelude.{Bool, true, false, ◌&&◌, not, Option, None}
use Rattle.std.specs.List.{AllByRecursion}
use Rattle.graph_model.specs.declared.row.Key.{Key}
use Rattle.graph_model.specs.declared.row.Row.{Row}
use Rattle.graph_model.specs.declared.row.Cursor.{Cursor}
use Rattle.graph_model.specs.Graph.{Graph}
use Rattle.graph_model.specs.Rows.{is_below, is_between, first_key, end_key, rows, value_at}
use Rattle.graph_model.specs.Scans.{ScansBy}
use Rattle.graph_model.proofs.KeyLemmas.{below_self, between_parts, upto_chain}
use Rattle.graph_model.proofs.RowLemmas.{rows_of_values}
use Rattle.row_writes.specs.VersionSegment.Rows.{VersionedRows, IsSegment, versions_at}
use Rattle.leaf_store.specs.LeafArray.Segments.{high_or, AreChained}
use Rattle.store_model.specs.Stamped.{forget_row}
use Rattle.store_model.specs.Versions.{read}
use Rattle.edge_scan.specs.Steps.{IsUnderWay, end_of}
use Rattle.edge_scan.proofs.StepLemmas.{steps_are_a_scan}
use Rattle.undo_chain.specs.declared.states.Snapshot.{Snapshot}
use Rattle.graph_model.specs.declared.journal.TxnName.{TxnName}
use Rattle.leaf_store.specs.Leaves.{Leaves, AreLeaves, cells_of, cell_in, no_cell}
use Rattle.leaf_rows.specs.Runs.{ShowsBy, lesser}

-- ---- the end of a run

-- a run that ends before its range does, ends where a step of the scan does
pub end_stays : (high : Key) (cursor : Cursor) → end_of (lesser high cursor.until) cursor ≡ lesser high cursor.until
end_stays high cursor = go (is_below high cursor.until) refl
  where
    go : (t : Bool) → is_below high cursor.until ≡ t → cond (is_below (cond t high cursor.until) cursor.until) (cond t high cursor.until) cursor.until ≡ cond t high cursor.until
    go true e = ap (λ t. cond t high cursor.until) e
    go false e = ap (λ t. cond t cursor.until cursor.until) (below_self cursor.until)

pub run_end_stays : (end high : Key) (cursor : Cursor) → end ≡ lesser high cursor.until → end_of end cursor ≡ end
run_end_stays end high cursor is = rw is (end_stays high cursor)

pub below_lesser : (k a b : Key) → is_below k a ≡ true → is_below k b ≡ true → is_below k (lesser a b) ≡ true
below_lesser k a b ka kb = go (is_below a b)
  where
    go : (t : Bool) → is_below k (cond t a b) ≡ true
    go true = ka
    go false = kb

-- ---- behind the last key

-- no cell ends behind the last one
ends_within : (c : VersionedRows) (cs : List VersionedRows) → AllByRecursion IsSegment cs → AreChained (c ∷ cs) → is_below (high_or cs c.high) c.high ≡ false
ends_within c [] sound chained = below_self c.high
ends_within c (d ∷ ds) sound chained =
    upto_chain c.high d.high (high_or ds d.high)
    (ap (is_below d.high) (sym chained.0) ∙ sound.0.fences)
    (ends_within d ds sound.1 chained.1)

pub none_beyond : (cs : List VersionedRows) (q : Key) → AllByRecursion IsSegment cs → AreChained cs → high_or cs first_key ≡ end_key → is_below q end_key ≡ false → cell_in cs q ≡ no_cell
none_beyond [] q sound chained high beyond = refl
none_beyond (c ∷ cs) q sound chained high beyond =
    ap (λ t. cond t c (cell_in cs q)) (outside (is_below q c.low) (upto_chain c.high end_key q (ap (λ k. is_below k c.high) (sym high) ∙ ends_within c cs sound.1 chained) beyond))
    ∙ rest cs high (λ h. none_beyond cs q sound.1 chained.1 h beyond)
  where
    outside : (t : Bool) → is_below q c.high ≡ false → (not t && is_below q c.high) ≡ false
    outside true e = refl
    outside false e = e

    rest : (ds : List VersionedRows) → high_or ds c.high ≡ end_key → (high_or ds first_key ≡ end_key → cell_in ds q ≡ no_cell) → cell_in ds q ≡ no_cell
    rest [] high then = refl
    rest (d ∷ ds) high then = then high

-- so no rows are seen there
pub no_rows_beyond : (stamps : TxnName → Option ℕ) (snapshot : Snapshot) (s : Leaves) (g : Graph) → AreLeaves s → ShowsBy stamps snapshot s g → (from until : Key) → is_below from end_key ≡ false → rows g from until ≡ []
no_rows_beyond stamps snapshot s g sound shows from until beyond = sym (rows_of_values g from until [] refl (λ q. value q (is_between from until q) refl))
  where
    value : (q : Key) (t : Bool) → is_between from until q ≡ t → None ≡ cond t (value_at g q) None
    value q true e =
        let none = none_beyond (cells_of s) q sound.segments sound.chained sound.high (upto_chain end_key from q beyond (between_parts from until q e).0) in
        ap (λ (c : VersionedRows). read stamps snapshot.start snapshot.own (forget_row (versions_at c q))) (sym none) ∙ shows q
    value q false e = refl

-- where no row is left the scan is done
pub scan_ends : (g : Graph) (first now : Cursor) (given : List Row) → rows g now.next now.until ≡ [] → length given < 64 → IsUnderWay g first now given
    → ScansBy g first (record now { done = true }) given
scan_ends g first now given none few under_way =
    steps_are_a_scan g first (record now { done = true }) given (record { until = under_way.until; kept = under_way.kept; ended = λ _. (none, few) }) (inl refl)

-- a step that keeps where the scan ends
pub same_end : (g : Graph) (first old stepped : Cursor) (given : List Row) → old.until ≡ first.until → IsUnderWay g first stepped given
    → IsUnderWay g first (record { next = stepped.next; until = old.until; done = stepped.done }) given
same_end g first old stepped given until under_way =
    let same : stepped.until ≡ old.until = under_way.until ∙ sym until in
    rw (← same) under_way
