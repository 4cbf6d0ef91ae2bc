-- Readers that a pass has split off: each reads by the account of its pass as it was then.
use Rattle.std.specs.Prelude.{◌≡◌, ℕ, ◌≤◌, ◌==◌, List, length, count_by}
use Rattle.std.specs.List.{AllByRecursion}
use mathlib.Core.List.{IsPrefix}
use Rattle.graph_model.specs.declared.write.Write.{Write}
use Rattle.graph_model.specs.declared.journal.TxnName.{TxnName}
use Rattle.graph_model.specs.declared.journal.Commit.{Commit}
use Rattle.store_relation.specs.declared.stage.Stage.TheVariants.{Open}
use Rattle.store_relation.specs.Passes.{PassState, number_of, name_of}

-- the transaction whose view it reads, and the journal as far as its pass had seen it
pub record ReaderState : Type 0 where
  pub by : TxnName
  pub start : ℕ
  pub own : List Write
  pub seen : List Commit

-- what a pass gives a reader
abbrev pub reader_of : (ℕ → PassState) → ℕ → ReaderState
reader_of pass p =
    record { by = name_of pass p; start = (pass p).start; own = (pass p).own; seen = (pass p).seen }

-- its pass still has the same transaction open, with the same writes
pub record IsReader (pass : ℕ → PassState) (commits : List Commit) (x : ReaderState) : Type 0 where
  pub stage : (pass x.by.job).stage ≡ Open
  pub by : x.by ≡ name_of pass x.by.job
  pub start : x.start ≡ (pass x.by.job).start
  pub own : x.own ≡ (pass x.by.job).own
  pub seen : IsPrefix x.seen commits
  pub started : x.start ≤ length x.seen

-- how many of the readers are of this pass
abbrev pub readers_of : ℕ → List ReaderState → ℕ
readers_of p readers = count_by (λ x. x.by.job == p) readers

-- all readers that are out, whoever has them, and no pass counts more or fewer
pub record AreReaders (pass : ℕ → PassState) (commits : List Commit) (readers : List ReaderState)
    : Type 0 where
  pub each : AllByRecursion (IsReader pass commits) readers
  pub out : (p : ℕ) → readers_of p readers ≡ (pass p).readers_out

-- a step that leaves the transaction of its pass as readers know it
pub record IsSameTxn (old new : PassState) : Type 0 where
  pub stage : new.stage ≡ old.stage
  pub number : number_of new ≡ number_of old
  pub start : new.start ≡ old.start
  pub own : new.own ≡ old.own
