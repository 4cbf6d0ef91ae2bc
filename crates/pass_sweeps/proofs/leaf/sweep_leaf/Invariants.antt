use Rattle.std.specs.Prelude.{◌≡◌}
use Rattle.epoch_reclaim.specs.Pinned.{horizon_of}
use Rattle.pass_steps.specs.Passes.{HoldsNone, IsPassOf, state_of}
use Rattle.pass_sweeps.specs.Pruning.{FindsWords, TakesAwayOf, stamps_seen}
use Rattle.pass_sweeps.proofs.leaf.sweep_leaf.Given as goal

-- so many cells are pruned
abbrev pub invariant-cells : goal.invariant-cells
invariant-cells g l = IsPassOf l.store l.pass × HoldsNone l.pass × FindsWords l.fn.pass l.pass
    × (l.swept.leaf ≡ l.leaf) × (l.swept.cells ≡ l._cell)
    × TakesAwayOf (stamps_seen (state_of l.fn.pass)) (horizon_of l.sweep) l._cell l.swept.took
