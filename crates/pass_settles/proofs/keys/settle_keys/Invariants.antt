use Rattle.std.proofs.Common.{◌≡◌, false, take, true}
use Rattle.graph_model.specs.declared.row.Key.{Key}
use Rattle.graph_model.specs.Rows.{is_between}
use Rattle.pass_sweeps.specs.StoreRelation.Keys.{has_key}
use Rattle.pass_sweeps.specs.PassSteps.Passes.{HoldsNone, IsPassOf, IsSamePass, pin_of, state_of}
use Rattle.pass_settles.specs.Settled.{IsSettling, StampsKeys}
use Rattle.pass_settles.proofs.keys.settle_keys.Given as goal

-- the rows of the keys before are stamped, and all that stand between the fence keys
abbrev pub invariant-keys : goal.invariant-keys
invariant-keys g l = record {
  pass : IsPassOf l.store l.pass;
  none : HoldsNone l.pass;
  settling : IsSettling l.store l.pass l.sweep l.by l.stamp;
  stamped : StampsKeys (take l.place l.keys) (state_of l.fn.pass) (state_of l.pass);
  between : (q : Key) → is_between l.fences.low l.fences.high q ≡ true → has_key (state_of l.pass).unstamped q ≡ false;
  pin : pin_of l.pass ≡ pin_of l.fn.pass;
  same : IsSamePass l.fn.pass l.pass;
}
