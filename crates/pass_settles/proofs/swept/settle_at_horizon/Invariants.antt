use Rattle.pass_sweeps.specs.PassSteps.Passes.{HoldsNone, IsPassOf}
use Rattle.pass_sweeps.specs.Pruning.{FindsWords}
use Rattle.pass_settles.proofs.swept.settle_at_horizon.Given as goal

abbrev pub invariant-cells : goal.invariant-cells
invariant-cells g l = IsPassOf l.store l.pass × HoldsNone l.pass × FindsWords l.fn.pass l.pass
