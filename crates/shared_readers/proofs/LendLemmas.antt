-- A pass that lends its account and is given it back, and the readers that are made of others.
use Rattle.std.proofs.Common.{◌≡◌, ℕ, ◌+◌, ◌-◌, List, [], refl, sym, ◌∙◌, ap, subst}
use Rattle.graph_model.specs.declared.journal.Begun.{Begun}
use Rattle.graph_model.specs.Account.{IsValid}
use Rattle.graph_model.specs.AccountSteps.{view_of}
use Rattle.shared_store.specs.PassSteps.Passes.{IsIdlePass, IsOpenPass, HoldsNone, pin_of, reader_of_pass, state_of}
use Rattle.shared_store.specs.StoreRelation.Passes.{PassState, number_of}
use Rattle.shared_store.specs.StoreRelation.Passes.{account_of as state_account}
use Rattle.pass_readers.specs.RuleModel.StoreRelation.Readers.{ReaderState}
use Rattle.pass_readers.specs.RuleModel.StoreRelation.Steps.{with_readers}
use Rattle.shared_store.specs.StoreRuleDeclared.store.Pass.{Pass as Seats}
use Rattle.shared_store.specs.StoreRuleDeclared.store.Store.{Store}
use Rattle.pass_readers.specs.Readers.{IsReaderOf, first_of, read_by, seen_by}
use Rattle.shared_store.specs.declared.pass.Pass.{Pass}
use Rattle.shared_store.specs.Passes.{IsIdle, IsOpen, account_of, view_in}
use Rattle.shared_store.proofs.PassLemmas.{view_has_end}
use Rattle.shared_readers.specs.declared.reader.SnapshotReader.{SnapshotReader}
use Rattle.shared_readers.specs.Readers.{EndsWithKeys, IsLending, IsReader, KeepsLending, out_of, own_account, seen_in}

-- ---- the pass that lends

-- an open pass may lend its account
pub may_lend : (store : Store) (pass : Pass) → IsOpen store pass → IsLending store pass
may_lend store pass is = record {
  opened = is.opened;
  cells = is.cells;
  begun = is.begun;
  start = is.start;
  own = is.own;
  changed = is.changed;
  valid = is.valid;
  ends = view_has_end store pass is;
}

-- where no reader is out it is as any call wants it
pub all_are_back : (store : Store) (pass : Pass) → IsLending store pass → out_of pass ≡ 0 → IsOpen store pass
all_are_back store pass is alone = record {
  opened = is.opened;
  alone = alone;
  cells = is.cells;
  begun = is.begun;
  start = is.start;
  own = is.own;
  changed = is.changed;
  valid = is.valid;
}

-- so many readers are out, and all else is as it was
module _ (store : Store) (old new : Pass) (n : ℕ) (was : IsLending store old) (opened : IsOpenPass store new.seats)
    (out : state_of new.seats ≡ with_readers (state_of old.seats) n) (number : new.seats.number ≡ old.seats.number)
    (cells : new.cells.taken.list.items ≡ old.cells.taken.list.items) (begun : new.begun ≡ old.begun)
    (start : new.start ≡ old.start) (own : new.own.items ≡ old.own.items)
    (changed : new.changed.items ≡ old.changed.items) where
  account : account_of store new ≡ account_of store old
  account i = state_account store.accounts.config (number i) (out i)

  pub keeps_lending : KeepsLending store old new
  keeps_lending = record {
    lending = record {
      opened = opened;
      cells = cells ∙ was.cells;
      begun = begun ∙ was.begun ∙ (λ i. number_of (sym out i));
      start = start ∙ was.start ∙ (λ i. (sym out i).start);
      own = own ∙ was.own ∙ (λ i. (sym out i).own);
      changed = changed ∙ was.changed ∙ (λ i. (sym out i).own);
      valid = subst IsValid (sym account) was.valid;
      ends = subst EndsWithKeys (λ i. view_of (sym account i) (sym start i)) was.ends;
    };
    account = account;
    start = start;
    number = number;
  }

-- ---- a reader that is made

-- what a reader sees that is split off now is what its pass sees
pub sees_the_view : (store : Store) (from : Pass) → IsLending store from
    → seen_by store.accounts.config (reader_of_pass from.seats) ≡ view_in store from
sees_the_view store from was i = view_of (account_of store from) (sym was.start i)

-- by whose account it reads
pub reads_by : (store : Store) (x : ReaderState) (seats : Seats) → IsReaderOf store x seats → read_by seats ≡ x
reads_by store x seats of i = first_of (of.sight.readers i)

module _ (store : Store) (from : Pass) (answer : Begun) (was : IsLending store from)
    (by : answer.by ≡ record { job = from.seats.number; number = from.begun }) (since : answer.start ≡ from.start) (to : Pass) (idle : IsIdle store to) (reader : SnapshotReader)
    (of : IsReaderOf store (reader_of_pass from.seats) reader.pass.seats) (none : HoldsNone reader.pass.seats)
    (state : state_of reader.pass.seats ≡ state_of to.seats) (number : reader.pass.seats.number ≡ to.seats.number)
    (cells : reader.pass.cells.taken.list.items ≡ to.cells.taken.list.items) (begun : reader.pass.begun ≡ to.begun)
    (own : reader.pass.own.items ≡ to.own.items) (changed : reader.pass.changed.items ≡ to.changed.items)
    (start_is : reader.snapshot.start ≡ answer.start) (own_is : reader.snapshot.own ≡ answer.by) where
  by_account : read_by reader.pass.seats ≡ reader_of_pass from.seats
  by_account = reads_by store (reader_of_pass from.seats) reader.pass.seats of

  pub account_kept : own_account store reader ≡ account_of store to
  account_kept i = state_account store.accounts.config (number i) (state i)

  pub sees_it : seen_in store reader ≡ view_in store from
  sees_it = (λ i. seen_by store.accounts.config (by_account i)) ∙ sees_the_view store from was

  pub is_made : IsReader store reader
  is_made = record {
    nothing = record {
      of = subst (λ (x : ReaderState). IsReaderOf store x reader.pass.seats) (sym by_account) of;
      none = none;
      cells = cells ∙ idle.cells;
    };
    snapshot = record {
      start = start_is ∙ since ∙ was.start ∙ (λ i. (sym by_account i).start);
      own = own_is ∙ by ∙ (λ i. record { job = from.seats.number; number = was.begun i })
          ∙ (λ i. (sym by_account i).by);
    };
    ends = subst EndsWithKeys (sym sees_it) was.ends;
    begun = begun ∙ idle.begun ∙ (λ i. number_of (sym state i));
    own = own ∙ idle.own;
    changed = changed ∙ idle.changed;
    valid = subst IsValid (sym account_kept) idle.valid;
  }

-- ---- and is a pass again

module _ (store : Store) (reader : SnapshotReader) (was : IsReader store reader) (pass : Pass)
    (idle : IsIdlePass store pass.seats) (state : state_of pass.seats ≡ state_of reader.pass.seats)
    (number : pass.seats.number ≡ reader.pass.seats.number)
    (cells : pass.cells.taken.list.items ≡ reader.pass.cells.taken.list.items) (begun : pass.begun ≡ reader.pass.begun)
    (own : pass.own.items ≡ reader.pass.own.items) (changed : pass.changed.items ≡ reader.pass.changed.items) where
  pub account_again : account_of store pass ≡ own_account store reader
  account_again i = state_account store.accounts.config (number i) (state i)

  pub is_idle_again : IsIdle store pass
  is_idle_again = record {
    idle = idle;
    cells = cells ∙ was.nothing.cells;
    begun = begun ∙ was.begun ∙ (λ i. number_of (sym state i));
    own = own ∙ was.own;
    changed = changed ∙ was.changed;
    valid = subst IsValid (sym account_again) was.valid;
  }
