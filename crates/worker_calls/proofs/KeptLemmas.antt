-- A pass stays ready where room was made for it, and where a turn of the service was taken by it.
use Rattle.std.proofs.Common.{◌≡◌, inl, inr, ℕ, List, refl, sym, ◌∙◌, ap, subst}
use mathlib.Core.List.{IsPrefix}
use Rattle.std.specs.Prelude.{true, Option, Some, None, IfSome, Result, Ok, Err}
use Rattle.graph_model.specs.Account.{Account, IsOpenTxn, IsValid}
use Rattle.graph_model.specs.AccountSteps.{ReadsBy, view_of}
use Rattle.graph_model.specs.declared.journal.Begun.{Begun}
use Rattle.graph_model.specs.declared.row.Key.{Key}
use Rattle.graph_model.specs.declared.row.Row.{Row}
use Rattle.graph_model.specs.Rows.{rows}
use Rattle.graph_model.proofs.AccountLemmas.{read_keeps}
use Rattle.reader_parts.specs.RuleModel.Sight.{PinState}
use Rattle.reader_parts.specs.StoreRelation.Passes.{PassState, number_of}
use Rattle.reader_parts.specs.StoreRelation.Passes.{account_of as state_account}
use Rattle.reader_parts.specs.StoreRelation.Steps.{filled_up}
use Rattle.reader_parts.specs.StoreRuleDeclared.store.Pass.{Pass as Seats}
use Rattle.reader_parts.specs.StoreRuleDeclared.store.Store.{Store}
use Rattle.reader_parts.specs.PassSteps.Passes.{HasOpenTxn, HoldsNone, IsPassOf, pin_of, state_of}
use Rattle.pass_room.specs.PassSweeps.Sweeping.{GoesOn}
use Rattle.pass_room.specs.PassCells.Holding.{KeepsPass}
use Rattle.pass_room.specs.PassCellsDeclared.own.PassCells.{PassCells}
use Rattle.pass_room.proofs.PassSweeps.GoingLemmas.{account_goes_on, idle_goes_on, open_goes_on}
use Rattle.pass_room.proofs.PassWrites.HandLemmas.{keeps_state}
use Rattle.reader_parts.proofs.StoreRelation.ListLemmas.{prefix_all}
use Rattle.pass_room.specs.Making.{state_after}
use Rattle.pass_room.specs.declared.made.NoRoom.{NoRoom}
use Rattle.pass_room.specs.declared.made.NoRoom.TheVariants.{Full, NoMemory}
use Rattle.pass_room.specs.declared.made.RoomMade.{RoomMade}
use Rattle.reader_parts.specs.SharedStoreDeclared.pass.Pass.{Pass}
use Rattle.reader_parts.specs.OptimisticRead.Runs.{EndsRun}
use Rattle.pass_scans.specs.Packed.{IsRunTo, view_seen}
use Rattle.pass_scans.specs.declared.run.PackedRun.{PackedRun}
use Rattle.pass_scans.specs.PassSteps.Asking.{IsSnapshotOf}
use Rattle.pass_scans.specs.PassSweeps.Pruning.{FindsWords}
use Rattle.reader_parts.specs.SharedStore.Passes.{IsIdle, IsOpen, KeepsOpen, account_of, view_in}
use Rattle.worker_calls.specs.Ready.{IsReady, KeepsRest}

-- ---- room was made

filled_valid : (a : Account) → IsValid a → IsValid (record a { filled = true })
filled_valid a valid = record {
  legal = valid.legal;
  current = by_start a.start valid.current;
  idle = valid.idle;
  counted = valid.counted;
  room = valid.room;
}
  where
    by_start : (o : Option ℕ) → IfSome o (IsOpenTxn a) → IfSome o (IsOpenTxn (record a { filled = true }))
    by_start None h = tt
    by_start (Some start) h = record { seen = h.seen; allowed = h.allowed; within = h.within; last = h.last }

filled_open : (st : PassState) (x : PinState) → HasOpenTxn st x → HasOpenTxn (filled_up st) x
filled_open st x h = record {
  stage = h.stage;
  laid = h.laid;
  started = h.started;
  stamped = h.stamped;
  pinned = h.pinned;
}

-- the pass after a call for room, by its state
module _ (store : Store) (old new : Pass) (was : IsOpen store old) (rest : KeepsRest old new)
    (of : IsPassOf store new.seats) (none : HoldsNone new.seats) (pin : pin_of new.seats ≡ pin_of old.seats) where
  same_open : state_of new.seats ≡ state_of old.seats → IsOpen store new
  same_open same = record {
    opened = record {
      of = of;
      none = none;
      opened = subst (λ (u : PassState × PinState). HasOpenTxn u.0 u.1) (λ i. (sym same i, sym pin i))
          was.opened.opened;
    };
    alone = ap (λ (st : PassState). st.readers_out) same ∙ was.alone;
    cells = rest.cells ∙ was.cells;
    begun = rest.begun ∙ was.begun ∙ ap number_of (sym same);
    start = rest.start ∙ was.start ∙ ap (λ (st : PassState). st.start) (sym same);
    own = rest.own ∙ was.own ∙ ap (λ (st : PassState). st.own) (sym same);
    changed = rest.changed ∙ was.changed ∙ ap (λ (st : PassState). st.own) (sym same);
    valid = subst (λ (u : ℕ × PassState). IsValid (state_account store.accounts.config u.0 u.1))
        (λ i. (sym rest.number i, sym same i)) was.valid;
  }

  full_open : state_of new.seats ≡ filled_up (state_of old.seats) → IsOpen store new
  full_open same = record {
    opened = record {
      of = of;
      none = none;
      opened = subst (λ (u : PassState × PinState). HasOpenTxn u.0 u.1) (λ i. (sym same i, sym pin i))
          (filled_open (state_of old.seats) (pin_of old.seats) was.opened.opened);
    };
    alone = ap (λ (st : PassState). st.readers_out) same ∙ was.alone;
    cells = rest.cells ∙ was.cells;
    begun = rest.begun ∙ was.begun ∙ ap number_of (sym same);
    start = rest.start ∙ was.start ∙ ap (λ (st : PassState). st.start) (sym same);
    own = rest.own ∙ was.own ∙ ap (λ (st : PassState). st.own) (sym same);
    changed = rest.changed ∙ was.changed ∙ ap (λ (st : PassState). st.own) (sym same);
    valid = subst (λ (u : ℕ × PassState). IsValid (state_account store.accounts.config u.0 u.1))
        (λ i. (sym rest.number i, sym same i)) (filled_valid (account_of store old) was.valid);
  }

  -- OPEN STILL, whatever came of it
  pub room_open : (r : Result RoomMade NoRoom) → state_of new.seats ≡ state_after r (state_of old.seats)
      → IsOpen store new
  room_open (Ok made) same = same_open same
  room_open (Err (Full full)) same = full_open same
  room_open (Err NoMemory) same = same_open same

-- its account
pub room_account : (store : Store) (old new : Pass) → new.seats.number ≡ old.seats.number → (st : PassState)
    → state_of new.seats ≡ st → account_of store new ≡ state_account store.accounts.config old.seats.number st
room_account store old new number st same i = state_account store.accounts.config (number i) (same i)

-- ---- a turn was taken

-- only the seats have changed
pub seats_only : (old : Pass) (seats : Seats) → seats.number ≡ old.seats.number
    → KeepsRest old (record old { seats = seats })
seats_only old seats number =
    record { number = number; cells = refl; begun = refl; start = refl; own = refl; changed = refl }

module _ (store : Store) (old new : Pass) (rest : KeepsRest old new) (of : IsPassOf store new.seats) (none : HoldsNone new.seats)
    (goes : GoesOn old.seats new.seats) where
  pub turn_account : ReadsBy (account_of store old) (account_of store new)
  turn_account = account_goes_on store old.seats new.seats goes

  valid' : IsValid (account_of store old) → IsValid (account_of store new)
  valid' valid = read_keeps (account_of store old) valid (account_of store new) of.legal turn_account

  idle' : IsIdle store old → IsIdle store new
  idle' was = record {
    idle = idle_goes_on store old.seats new.seats was.idle of none goes;
    cells = rest.cells ∙ was.cells;
    begun = rest.begun ∙ was.begun ∙ ap number_of (sym goes.sees.is);
    own = rest.own ∙ was.own;
    changed = rest.changed ∙ was.changed;
    valid = valid' was.valid;
  }

  pub opened' : IsOpen store old → IsOpen store new
  opened' was =
      let is = goes.sees.is in
      record {
        opened = open_goes_on store old.seats new.seats was.opened of none goes;
        alone = ap (λ (st : PassState). st.readers_out) is ∙ was.alone;
        cells = rest.cells ∙ was.cells;
        begun = rest.begun ∙ was.begun ∙ ap number_of (sym is);
        start = rest.start ∙ was.start ∙ ap (λ (st : PassState). st.start) (sym is);
        own = rest.own ∙ was.own ∙ ap (λ (st : PassState). st.own) (sym is);
        changed = rest.changed ∙ was.changed ∙ ap (λ (st : PassState). st.own) (sym is);
        valid = valid' was.valid;
      }

  -- READY STILL
  pub turn_ready : IsReady store old → IsReady store new
  turn_ready (inl was) = inl (idle' was)
  turn_ready (inr was) = inr (opened' was)

-- ---- rows were moved

-- a pass that knows of itself what it knew goes on
pub kept_goes : (store : Store) (old new : Seats) → KeepsPass old new → GoesOn old new
kept_goes store old new kept =
    let state : state_of new ≡ state_of old = (keeps_state store old new kept).state in
    let pin : pin_of new ≡ pin_of old = (keeps_state store old new kept).pin in
    record {
      number = kept.number;
      sees = record {
        front = subst (λ (st : PassState). IsPrefix (state_of old).seen st.seen) (sym state)
            (prefix_all (state_of old).seen);
        is = state ∙ (λ i. record (state_of old) { seen = (sym state i).seen; looks = (sym state i).looks });
      };
      pin = pin ∙ (λ i. record (pin_of old) { sweep = (sym pin i).sweep });
      reads = kept.reads;
    }

-- ---- what a pass is between calls

pub ready_of : (store : Store) (pass : Pass) → IsReady store pass → IsPassOf store pass.seats
ready_of store pass (inl idle) = idle.idle.of
ready_of store pass (inr opened) = opened.opened.of

pub ready_none : (store : Store) (pass : Pass) → IsReady store pass → HoldsNone pass.seats
ready_none store pass (inl idle) = idle.idle.none
ready_none store pass (inr opened) = opened.opened.none

-- other hints beside the same cells change nothing
pub ready_hinted : (store : Store) (pass : Pass) (cells : PassCells) → cells.taken.list.items ≡ pass.cells.taken.list.items → IsReady store pass → IsReady store (record pass { cells = cells })
ready_hinted store pass cells same (inl idle) =
    inl (record { idle = idle.idle; cells = same ∙ idle.cells; begun = idle.begun; own = idle.own; changed = idle.changed; valid = idle.valid })
ready_hinted store pass cells same (inr opened) =
    inr (record {
      opened = opened.opened;
      alone = opened.alone;
      cells = same ∙ opened.cells;
      begun = opened.begun;
      start = opened.start;
      own = opened.own;
      changed = opened.changed;
      valid = opened.valid;
    })

-- ---- rows were read in a cell

-- a pass that has found words goes on
found_goes : (old new : Seats) → FindsWords old new → GoesOn old new
found_goes old new found = record {
  number = found.number;
  sees = record {
    front = subst (λ (st : PassState). IsPrefix (state_of old).seen st.seen) (sym found.state) (prefix_all (state_of old).seen);
    is = found.state ∙ (λ i. record (state_of old) { seen = (sym found.state i).seen; looks = (sym found.state i).looks });
  };
  pin = found.pin ∙ (λ i. record (pin_of old) { sweep = (sym found.pin i).sweep });
  reads = found.reads;
}

-- OPEN STILL: its transaction is the same
pub found_open : (store : Store) (old : Pass) (seats : Seats) → IsOpen store old → IsPassOf store seats → HoldsNone seats
    → FindsWords old.seats seats → KeepsOpen store old (record old { seats = seats })
found_open store old seats was of none found = record {
  opened = opened' store old (record old { seats = seats }) (seats_only old seats found.number) of none
      (found_goes old.seats seats found) was;
  account = λ i. state_account store.accounts.config (found.number i) (found.state i);
  start = refl;
  number = found.number;
}

-- what its begin has answered is its snapshot
pub seen_snapshot : (store : Store) (pass : Pass) → IsOpen store pass → (begun : Begun)
    → begun.by ≡ record { job = pass.seats.number; number = pass.begun } → begun.start ≡ pass.start
    → IsSnapshotOf pass.seats (record { start = begun.start; own = begun.by })
seen_snapshot store pass was begun by start = record {
  start = start ∙ was.start;
  own = by ∙ (λ i. record { job = pass.seats.number; number = was.begun i });
  within = was.opened.opened.started;
}

-- and the rows that were read are those of its view
pub seen_run : (store : Store) (pass : Pass) → IsOpen store pass → (o : Option PackedRun) (from until : Key) (run : List Row)
    → IfSome o (λ read. IsRunTo read.end (view_seen store.accounts.config (state_of pass.seats)) from until run)
    → IfSome o (λ read. EndsRun read.end from until × (run ≡ rows (view_in store pass) from read.end))
seen_run store pass was None from until run there = tt
seen_run store pass was (Some read) from until run there = (
  record { ahead = there.ahead; inside = there.inside },
  there.run_is ∙ (λ i. rows (view_of (account_of store pass) (sym was.start i)) from read.end),
)
