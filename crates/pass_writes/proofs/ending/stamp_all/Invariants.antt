use Rattle.std.proofs.Common.{◌≡◌, drop}
use Rattle.pass_prunes.specs.PassSteps.Passes.{IsSamePass, pin_of, state_of}
use Rattle.pass_writes.specs.Ending.{AreLeft, LeavesRows}
use Rattle.pass_writes.specs.Hand.{HasNothing}
use Rattle.pass_writes.proofs.ending.stamp_all.Given as goal

-- only rows of the writes to come are left
abbrev pub invariant-writes : goal.invariant-writes
invariant-writes g l = record {
  none : HasNothing l.store l.pass l.cells.taken.list.items;
  state : LeavesRows (state_of l.pass).unstamped (state_of l.fn.pass) (state_of l.pass);
  left : AreLeft l.store.accounts.config.kind (drop l.place l.writes) (state_of l.pass).unstamped;
  pin : pin_of l.pass ≡ pin_of l.fn.pass;
  same : IsSamePass l.fn.pass l.pass;
}
