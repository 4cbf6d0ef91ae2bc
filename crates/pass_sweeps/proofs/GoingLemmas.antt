-- A pass that a sweep leaves goes on.
use Rattle.std.proofs.Common.{◌≡◌, ◌≤◌, length, sym, subst, arith}
use Rattle.pass_steps.specs.StoreRelation.Passes.{PassState, account_of}
use Rattle.pass_steps.proofs.StoreRelation.ListLemmas.{prefix_length}
use Rattle.pass_steps.specs.RuleModel.Sight.{PinState}
use Rattle.pass_steps.specs.Passes.{HasNoTxn, HasOpenTxn, pin_of, state_of}
use Rattle.pass_sweeps.specs.GoingOn.{AccountGoesOn, IdleGoesOn, OpenGoesOn}

pub account_goes_on : AccountGoesOn
account_goes_on store old new goes = record {
  seen = (goes.sees.front.0, sym goes.sees.front.1);
  others = λ i. account_of store.accounts.config (goes.number i) (goes.sees.is i);
}

pub idle_goes_on : IdleGoesOn
idle_goes_on store old new idle of none goes = record {
  of = of;
  none = none;
  idle = subst (λ (u : PassState × PinState). HasNoTxn u.0 u.1) (λ i. (sym goes.sees.is i, sym goes.pin i)) (record {
    ended = record {
      stage = idle.idle.ended.stage;
      own = idle.idle.ended.own;
      laid = idle.idle.ended.laid;
      alone = idle.idle.ended.alone;
    };
    stamped = idle.idle.stamped;
    unannounced = idle.idle.unannounced;
    unnoted = idle.idle.unnoted;
  });
}

pub open_goes_on : OpenGoesOn
open_goes_on store old new opened of none goes =
    let was = opened.opened.started in
    let long = prefix_length (state_of old).seen (state_of new).seen goes.sees.front in
    record {
      of = of;
      none = none;
      opened = subst (λ (u : PassState × PinState). HasOpenTxn u.0 u.1)
          (λ i. (sym goes.sees.is i, sym goes.pin i)) (record {
            stage = opened.opened.stage;
            laid = opened.opened.laid;
            started = omega (arith, was, long);
            stamped = opened.opened.stamped;
            pinned = opened.opened.pinned;
          });
    }
