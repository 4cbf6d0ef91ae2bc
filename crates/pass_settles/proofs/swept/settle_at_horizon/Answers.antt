use Rattle.std.proofs.Common.{refl}
use Rattle.pass_sweeps.proofs.HandLemmas.{finds_none, finds_then, swept_still}
use Rattle.pass_settles.proofs.swept.settle_at_horizon.Goals as goal

pub cells-init : goal.cells-init
cells-init g c = (c.requires.pass, c.requires.none, finds_none c.args.pass.now c.args.pass.now refl refl refl refl)

pub settle_one-requires-clause-swept : goal.settle_one-requires-clause-swept
settle_one-requires-clause-swept g c =
    swept_still c.args.store.now c.args.pass.now c.cells.pass c.args.sweep.now c.requires.swept c.cells.invariant.2

pub cells-preserved : goal.cells-preserved
cells-preserved g c = (
  c.settle_one.ensures.pass,
  c.settle_one.ensures.none,
  finds_then c.args.pass.now c.cells.pass c.settle_one.new.pass c.cells.invariant.2 c.settle_one.ensures.found,
)
