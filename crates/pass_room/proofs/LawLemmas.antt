-- A pass goes on after a call for room.
use Rattle.std.proofs.Common.{◌≡◌, refl, sym, ◌∙◌, subst}
use Rattle.std.specs.Prelude.{Result, Ok, Err}
use Rattle.pass_writes.specs.StoreRelation.Passes.{PassState, account_of}
use Rattle.pass_writes.specs.RuleModel.Sight.{PinState}
use Rattle.pass_writes.specs.PassSteps.Passes.{HasNoTxn, HasOpenTxn, account_of_pass, pin_of, state_of}
use Rattle.pass_room.specs.declared.made.NoRoom.{NoRoom}
use Rattle.pass_room.specs.declared.made.NoRoom.TheVariants as refusals
use Rattle.pass_room.specs.declared.made.RoomMade.{RoomMade}
use Rattle.pass_room.specs.Making.{AccountHasRoom, IdleHasRoom, OpenHasRoom, account_after, state_after}

open_after : (result : Result RoomMade NoRoom) (st : PassState) (x : PinState) → HasOpenTxn st x
    → HasOpenTxn (state_after result st) x
open_after (Ok made) st x opened = opened
open_after (Err refusals.NoMemory) st x opened = opened
open_after (Err (refusals.Full full)) st x opened = record {
  stage = opened.stage;
  laid = opened.laid;
  started = opened.started;
  stamped = opened.stamped;
  pinned = opened.pinned;
}

idle_after : (result : Result RoomMade NoRoom) (st : PassState) (x : PinState) → HasNoTxn st x
    → HasNoTxn (state_after result st) x
idle_after (Ok made) st x idle = idle
idle_after (Err refusals.NoMemory) st x idle = idle
idle_after (Err (refusals.Full full)) st x idle = record {
  ended = record {
    stage = idle.ended.stage;
    own = idle.ended.own;
    laid = idle.ended.laid;
    alone = idle.ended.alone;
  };
  stamped = idle.stamped;
  unannounced = idle.unannounced;
  unnoted = idle.unnoted;
}

pub open_has_room : OpenHasRoom
open_has_room store old new result opened of none kept = record {
  of = of;
  none = none;
  opened = subst (λ (u : PassState × PinState). HasOpenTxn u.0 u.1) (λ i. (sym kept.state i, sym kept.pin i))
      (open_after result (state_of old) (pin_of old) opened.opened);
}

pub idle_has_room : IdleHasRoom
idle_has_room store old new result idle of none kept = record {
  of = of;
  none = none;
  idle = subst (λ (u : PassState × PinState). HasNoTxn u.0 u.1) (λ i. (sym kept.state i, sym kept.pin i))
      (idle_after result (state_of old) (pin_of old) idle.idle);
}

pub account_has_room : AccountHasRoom
account_has_room store old new result kept =
    (λ i. account_of store.accounts.config (kept.same.number i) (kept.state i)) ∙ by_case result
  where
    by_case : (r : Result RoomMade NoRoom) → account_of store.accounts.config old.number (state_after r (state_of old))
        ≡ account_after r (account_of_pass store old)
    by_case (Ok made) = refl
    by_case (Err refusals.NoMemory) = refl
    by_case (Err (refusals.Full full)) = refl
