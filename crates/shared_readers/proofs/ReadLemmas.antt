-- A reader that has read on, and the runs that it has read.
use Rattle.std.proofs.Common.{◌≡◌, ℕ, List, [], ◌∷◌, ◌++◌, refl, sym, ◌∙◌, ap, subst}
use Rattle.std.specs.Prelude.{true, false, Option, Some, None, IfSome}
use Rattle.graph_model.specs.declared.row.Key.{Key}
use Rattle.graph_model.specs.declared.row.Row.{Row}
use Rattle.graph_model.specs.Account.{IsValid}
use Rattle.graph_model.specs.Graph.{Graph}
use Rattle.graph_model.specs.Rows.{is_below, rows}
use Rattle.optimistic_read.specs.PassSteps.Passes.{state_of}
use Rattle.optimistic_read.specs.StoreRelation.Passes.{number_of}
use Rattle.optimistic_read.specs.StoreRelation.Passes.{account_of as state_account}
use Rattle.optimistic_read.specs.StoreRuleDeclared.store.Store.{Store}
use Rattle.optimistic_read.specs.declared.tried.TriedRun.{TriedRun}
use Rattle.optimistic_read.specs.declared.tried.TriedRun.TheVariants.{Rows, Chained}
use Rattle.optimistic_read.specs.Runs.{IsRun, IsRunUpTo}
use Rattle.optimistic_read.specs.Tried.{SeatReads}
use Rattle.pass_readers.specs.Hand.{HasNothing, KeepsReader}
use Rattle.pass_readers.specs.Readers.{seen_by}
use Rattle.pass_readers.specs.Runs.{IsRunTo}
use Rattle.pass_readers.proofs.HandLemmas.{read_keeps_reader, read_takes_nothing}
use Rattle.shared_readers.specs.declared.reader.SnapshotReader.{SnapshotReader}
use Rattle.shared_readers.specs.Readers.{EndsWithKeys, IsReader, KeepsReading, own_account, seen_in}
use Rattle.shared_readers.specs.Runs.{ReadsNone, ReadsTo}

-- ---- the same reader

module _ (store : Store) (old new : SnapshotReader) (was : IsReader store old)
    (keeps : KeepsReader old.pass.seats new.pass.seats)
    (nothing : HasNothing store new.pass.seats new.pass.cells.taken.list.items) (begun : new.pass.begun ≡ old.pass.begun)
    (own : new.pass.own.items ≡ old.pass.own.items) (changed : new.pass.changed.items ≡ old.pass.changed.items)
    (start_is : new.snapshot.start ≡ old.snapshot.start) (own_is : new.snapshot.own ≡ old.snapshot.own) where
  account_kept : own_account store new ≡ own_account store old
  account_kept i = state_account store.accounts.config (keeps.number i) (keeps.state i)

  pub keeps_reading : KeepsReading store old new
  keeps_reading = record {
    reader = record {
      nothing = nothing;
      snapshot = record {
        start = start_is ∙ was.snapshot.start ∙ (λ i. (sym keeps.reads i).start);
        own = own_is ∙ was.snapshot.own ∙ (λ i. (sym keeps.reads i).by);
      };
      ends = subst EndsWithKeys (λ i. seen_by store.accounts.config (sym keeps.reads i)) was.ends;
      begun = begun ∙ was.begun ∙ (λ i. number_of (sym keeps.state i));
      own = own ∙ was.own;
      changed = changed ∙ was.changed;
      valid = subst IsValid (sym account_kept) was.valid;
    };
    reads = keeps.reads;
    account = account_kept;
  }

pub keeps_itself : (store : Store) (reader : SnapshotReader) → IsReader store reader → KeepsReading store reader reader
keeps_itself store reader is = record { reader = is; reads = refl; account = refl }

pub keeps_twice : (store : Store) (old mid new : SnapshotReader) → KeepsReading store old mid → KeepsReading store mid new
    → KeepsReading store old new
keeps_twice store old mid new first then = record {
  reader = then.reader;
  reads = then.reads ∙ first.reads;
  account = then.account ∙ first.account;
}

pub same_seen : (store : Store) (old new : SnapshotReader) → KeepsReading store old new → seen_in store new ≡ seen_in store old
same_seen store old new kept i = seen_by store.accounts.config (kept.reads i)

-- TRIED: a seat has read, and nothing else has changed
module _ (store : Store) (old new : SnapshotReader) (was : IsReader store old)
    (number : new.pass.seats.number ≡ old.pass.seats.number) (latch : new.pass.seats.latch ≡ old.pass.seats.latch)
    (buffers : new.pass.seats.buffers ≡ old.pass.seats.buffers)
    (reads : SeatReads old.pass.seats.account new.pass.seats.account)
    (cells : new.pass.cells.taken.list.items ≡ old.pass.cells.taken.list.items)
    (begun : new.pass.begun ≡ old.pass.begun) (own : new.pass.own.items ≡ old.pass.own.items)
    (changed : new.pass.changed.items ≡ old.pass.changed.items) (start_is : new.snapshot.start ≡ old.snapshot.start)
    (own_is : new.snapshot.own ≡ old.snapshot.own) where
  pub try_keeps_reading : KeepsReading store old new
  try_keeps_reading =
      keeps_reading store old new was
      (read_keeps_reader store old.pass.seats new.pass.seats number latch buffers reads.table reads.slots reads.view)
      (subst (HasNothing store new.pass.seats) (sym cells)
      (read_takes_nothing store old.pass.seats new.pass.seats number latch buffers reads.table reads.slots reads.view
      old.pass.cells.taken.list.items was.nothing))
      begun own changed start_is own_is

-- ---- runs

pub if_some : {X : Type 0} {P Q : X → Type 0} (o : Option X) → ((x : X) → P x → Q x) → IfSome o P → IfSome o Q
if_some None f h = tt
if_some (Some x) f h = f x h

-- the buffer is as it was, and so is what is seen
pub again_run : (store : Store) (old mid : SnapshotReader) → KeepsReading store old mid → (t : TriedRun) (from until : Key)
    (before now after : List Row) → now ≡ before → IsRun t (seen_in store mid) from until now after
    → IsRun t (seen_in store old) from until before after
again_run store old mid kept t from until before now after same run =
    subst (λ ws. IsRun t (seen_in store old) from until ws after) same
    (subst (λ g. IsRun t g from until now after) (same_seen store old mid kept) run)

-- a run that was read up to a key behind its first one
reads_up : (key end from until : Key) (g : Graph) (before after : List Row) → end ≡ key → is_below from end ≡ true
    → before ≡ [] → IsRunUpTo key g from until before after → IsRunTo end g from until after
reads_up key end from until g before after is ahead none run = record {
  ahead = ahead;
  inside = ap (is_below until) is ∙ run.inside;
  run_is = run.rows_are ∙ ap (λ ws. ws ++ rows g from key) none ∙ ap (rows g from) (sym is);
}

pub reads_rows : (t : TriedRun) (key from end : Key) → t ≡ Rows key → (end ≡ key) × (is_below from end ≡ true)
    → ReadsTo t from end
reads_rows t key from end is there = λ g until before after none run.
    reads_up key end from until g before after there.0 there.1 none
    (subst (λ a. IsRun a g from until before after) is run)

pub reads_chained : (t : TriedRun) (key last from end : Key) → t ≡ Chained key last
    → (end ≡ key) × (is_below from end ≡ true) → ReadsTo t from end
reads_chained t key last from end is there = λ g until before after none run.
    reads_up key end from until g before after there.0 there.1 none
    (subst (λ a. IsRun a g from until before after) is run).0
