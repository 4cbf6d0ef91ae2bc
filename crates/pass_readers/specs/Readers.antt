-- Passes that read by the account of another one.
use Rattle.std.specs.Prelude.{◌≡◌, ◌≢◌, ℕ, ◌<◌, ◌≤◌, List, [], ◌∷◌, length, None}
use Rattle.atomic_table.specs.Table.{Joins, Splits}
use Rattle.graph_model.specs.declared.journal.Commit.{Commit}
use Rattle.graph_model.specs.Graph.{Graph}
use Rattle.graph_model.specs.History.{view}
use Rattle.graph_model.specs.Legal.{IsLegal}
use Rattle.latch_table.specs.Latched.{number_of}
use Rattle.latch_table.specs.Latched.{IsPassOf as IsLatchPass}
use Rattle.seat_views.specs.Keeping.{kept_at}
use Rattle.txn_manager.specs.declared.config.Config.{Config}
use Rattle.undo_chain.specs.declared.states.Snapshot.{Snapshot}
use Rattle.pass_steps.specs.RuleModel.ViewSteps.{reader_seat}
use Rattle.pass_steps.specs.StoreRelation.Readers.{ReaderState, reader_of}
use Rattle.pass_steps.specs.RuleModel.Sight.{HasPass, HasPin, ReadState, Sight, no_sight}
use Rattle.pass_steps.specs.StoreWords.Steps.{IsAccountTable}
use Rattle.pass_steps.specs.StoreRuleDeclared.store.Pass.{Pass}
use Rattle.pass_steps.specs.StoreRuleDeclared.store.Store.{Store}
use Rattle.pass_steps.specs.Passes.{HasNoTxn, pin_in, pin_of, state_in, state_of}

-- ---- seats

-- what a reader has that is split off a pass now
abbrev pub reader_in : Sight → ℕ → ReaderState
reader_in v p = reader_of (λ _. state_in v p) p

-- a seat with a reader of this pass and nothing else but what it was told and has read
pub record IsReaderSeat (p : ℕ) (v : Sight) : Type 0 where
  pub reader : ReaderState
  pub told : List Commit
  pub reads : ReadState
  pub is : v ≡ reader_seat reader told reads
  pub of : reader.by.job ≡ p

-- whatever the seats are, a view may be cut so, or this may be known with what another seat knows
abbrev pub MaySplit : Config → Sight → Sight → Sight → Type 0
MaySplit z v left right = (id : ℕ) → Splits (IsAccountTable z) id v left right

abbrev pub MayJoin : Config → Sight → Sight → Sight → Type 0
MayJoin z v w both = (id other : ℕ) → Joins (IsAccountTable z) id v other w both no_sight

-- ---- readers

-- the first of a view's readers
abbrev pub no_reader : ReaderState
no_reader = record { by = record { job = 0; number = 0 }; start = 0; own = []; seen = [] }

abbrev pub first_of : List ReaderState → ReaderState
first_of [] = no_reader
first_of (x ∷ xs) = x

abbrev pub read_in : Sight → ReaderState
read_in v = first_of v.readers

-- by what account a pass reads, and what it sees by it
abbrev pub read_by : Pass → ReaderState
read_by pass = read_in pass.account.me.0

abbrev pub seen_by : Config → ReaderState → Graph
seen_by z x = view z.kind x.seen x.start x.own

-- a view that has this pass with its pin, no other pass, and this reader
pub record IsReaderSight (p : ℕ) (x : ReaderState) (v : Sight) : Type 0 where
  pub has : HasPass v p (state_in v p)
  pub pin : HasPin v p (pin_in v p)
  pub only : (q : ℕ) → q ≢ p → kept_at v.passes q ≡ None
  pub readers : v.readers ≡ x ∷ []

-- a pass of the store without a transaction that has this reader; it may hold cells
pub record IsReaderOf (store : Store) (x : ReaderState) (pass : Pass) : Type 0 where
  pub inside : pass.number < store.accounts.config.passes
  pub latch : IsLatchPass store.latches.table.shared.key.config.passes
      store.latches.table.shared.key store.latches.table.shared.table_id pass.latch
  pub same : number_of pass.latch.me.0 ≡ pass.number
  pub table : pass.account.table_id ≡ store.accounts.table.shared.table_id
  pub slots : pass.account.me.1 ≡ []
  pub sight : IsReaderSight pass.number x pass.account.me.0
  pub legal : IsLegal store.accounts.config.kind (state_of pass).seen
  pub idle : HasNoTxn (state_of pass) (pin_of pass)
  pub started : x.start ≤ length x.seen

-- the snapshot is that of the reader
pub record IsSnapshotOf (x : ReaderState) (snapshot : Snapshot) : Type 0 where
  pub start : snapshot.start ≡ x.start
  pub own : snapshot.own ≡ x.by
