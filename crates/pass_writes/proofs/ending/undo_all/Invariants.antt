use Rattle.std.proofs.Common.{◌≡◌, ◌≤◌, length, take}
use Rattle.pass_prunes.specs.StoreRelation.Steps.{taken_back}
use Rattle.pass_prunes.specs.PassSteps.Passes.{IsSamePass, pin_of, state_of}
use Rattle.pass_writes.specs.Hand.{HasNothing}
use Rattle.pass_writes.proofs.ending.undo_all.Given as goal

-- the first writes still stand
abbrev pub invariant-writes : goal.invariant-writes
invariant-writes g l = record {
  none : HasNothing l.store l.pass l.cells.taken.list.items;
  within : l.left ≤ length l.writes;
  state : state_of l.pass ≡ taken_back (state_of l.fn.pass) (take l.left l.writes);
  pin : pin_of l.pass ≡ pin_of l.fn.pass;
  same : IsSamePass l.fn.pass l.pass;
}

abbrev pub decreases-writes : goal.decreases-writes
decreases-writes g l = l.left
