use Rattle.std.proofs.Common.{◌∙◌, sym, arith}
use Rattle.graph_model.proofs.KeyLemmas.{between_parts}
use Rattle.leaf_store.specs.Leaves.{cell_at}
use Rattle.leaf_rows.proofs.SettleLemmas.{rank_rises}
use Rattle.leaf_rows.proofs.SweepLemmas.{more_gone, pruned_further, range_pruned}
use Rattle.leaf_rows.proofs.rows.LeafRows.sweep_cells.Goals as goal

pub cells-preserved : goal.cells-preserved
cells-preserved c =
    let sweep = c.sweep-pruned.ensures in
    let cell = sweep.cell in
    let before = c.cells.invariant in
    record {
      pruned = pruned_further _ _ _ _ _ c.cells.self _ c.cells.next _ before.pruned sweep.prunes cell.high cell.holds (rw c.self.view_is at c.leaf_range-range.ensures.whole) (sym c.is_below.ensures ∙ c.cells-test.true);
      went = more_gone c.cells.records c.sweep-pruned.result.records _ _ c.cells.self _ before.went cell.went c.saturating_add-records.ensures;
      fits = sweep.fits;
      limit = cell.limit ∙ before.limit;
      weight = let x = cell.weight in let y = before.weight in omega (arith, x, y);
    }

pub cells-smaller : goal.cells-smaller
cells-smaller c =
    let sweep = c.sweep-pruned.ensures in
    let cell = sweep.cell in
    let at = cell_at c.cells.self c.cells.next in
    let onward = rank_rises c.cells.next at.high (between_parts at.low at.high c.cells.next cell.holds).1 c.cells.invariant.fits in
    let within = rank_rises c.cells.next c.leaf_range-range.result.high (sym c.is_below.ensures ∙ c.cells-test.true) c.cells.invariant.fits in
    rw cell.high (omega (arith, onward, within))

pub returns-clause-prunes : goal.returns-clause-prunes
returns-clause-prunes c = record {
  low = c.leaf_range-range.result.low;
  leaf = rw c.self.view_is at c.leaf_range-range.ensures.leaf;
  holds = c.leaf_range-range.ensures.holds;
  prunes = range_pruned _ _ _ _ _ c.cells.self c.cells.next c.cells.invariant.pruned (sym c.is_below.ensures ∙ c.cells-test.false);
  went = c.cells.invariant.went;
}
