use Rattle.std.proofs.Common.{◌∙◌}
use Rattle.leaf_rows.proofs.RunLemmas.{run_is, few_read}
use Rattle.leaf_rows.proofs.rows.LeafRows.run_from.Goals as goal

pub returns-clause-rows : goal.returns-clause-rows
returns-clause-rows g c = λ h shows.
    rw (c.lesser-end.ensures, c.high.ensures) (
    (rw (c.lesser-end.ensures, c.high.ensures) at c.run_at-rows.ensures.rows)
    ∙ run_is _ c.args.snapshot.now c.self.inside.store h c.segment-cell.result.now c.args.from c.args.until c.is_segment.ensures c.self.invariant c.segment-cell.ensures.holds c.segment-cell.ensures.same (rw (← c.self.view_is) at shows)
    )

pub returns-clause-end : goal.returns-clause-end
returns-clause-end g c = rw (← c.self.view_is) (rw (c.high.ensures, c.segment-cell.ensures.cell) at c.lesser-end.ensures)

pub returns-clause-holds : goal.returns-clause-holds
returns-clause-holds g c = rw (← c.self.view_is) (rw c.segment-cell.ensures.cell at c.segment-cell.ensures.holds)

pub returns-clause-few : goal.returns-clause-few
returns-clause-few g c = rw c.run_at-rows.ensures.rows (few_read _ c.segment-cell.result.now c.args.from c.lesser-end.result c.is_segment.ensures)
