use Rattle.std.specs.Prelude.{◌≡◌, ◌-◌, ◌≤◌, Some}
use Rattle.pass_steps.specs.Passes.{IsPassOf}
use Rattle.pass_sweeps.specs.Sweeping.{OnlySweep}
use Rattle.pass_sweeps.proofs.pins.look_at_all.Given as goal

-- the pass's sweep has looked so far
abbrev pub invariant-pins : goal.invariant-pins
invariant-pins l = IsPassOf l.store l.pass × OnlySweep l.fn.pass l.pass (Some l.sweep)
    × (l.sweep.clock ≡ l.fn.sweep.clock) × (l.sweep.looked ≤ l.store.accounts.config.passes)

abbrev pub decreases-pins : goal.decreases-pins
decreases-pins l = l.store.accounts.config.passes - l.sweep.looked
