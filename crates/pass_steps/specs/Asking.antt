-- Where other transactions stand, for whoever asks by their passes' words and holds the rows that they wrote.
use Rattle.std.specs.Prelude.{◌≡◌, ◌≢◌, ℕ, zero, suc, ◌+◌, ◌-◌, ◌<◌, ◌≤◌, ◌==◌, Bool, false, ◌&&◌, ◌||◌, not, nat_lt, nat_le, cond, is_some, List, [], length, Option, Some, None}
use Rattle.std.specs.List.{list_any}
use Rattle.atomic_table.specs.Seated.{TableId}
use Rattle.atomic_table.specs.declared.shared.Seat.{Seat}
use Rattle.graph_model.specs.declared.journal.TxnName.{TxnName}
use Rattle.graph_model.specs.declared.row.Key.{Key}
use Rattle.graph_model.specs.declared.write.Kind.TheVariants.{Directed}
use Rattle.graph_model.specs.declared.state.State.{State}
use Rattle.graph_model.specs.declared.state.State.TheVariants.{Live, Committed, Aborted}
use Rattle.graph_model.specs.Conflict.{same_name}
use Rattle.graph_model.specs.Transactions.{stamp_in}
use Rattle.txn_manager.specs.declared.config.Config.{Config}
use Rattle.store_model.specs.Stamped.{Stamped, StampedVersions}
use Rattle.undo_chain.specs.declared.states.Snapshot.{Snapshot}
use Rattle.undo_chain.specs.States.{Knowledge}
use Rattle.store_rule.specs.VersionSegment.Rows.{versions_at}
use Rattle.seat_views.specs.Keeping.{kept_at}
use Rattle.store_rule.specs.StoreRelation.Steps.{look_at, with_look}
use Rattle.store_rule.specs.StoreRelation.Words.{Look, has_word}
use Rattle.store_rule.specs.CellsModel.Cells.{CellState}
use Rattle.store_rule.specs.CellsModel.Indexed.{covers}
use Rattle.store_rule.specs.RuleModel.NoteSteps.{HasRecordIn}
use Rattle.store_rule.specs.RuleModel.Sight.{HasPass, Sight, cells_of, no_reads, no_sight, with_pass}
use Rattle.store_rule.specs.declared.store.Pass.{Pass}
use Rattle.store_rule.specs.declared.store.Store.{Store}
use Rattle.pass_steps.specs.Passes.{name_of_pass, state_in, state_of}

-- ---- who is asked for

-- the writers of records without a stamp, in the rows of held cells
abbrev pub is_bare : TxnName → Stamped → Bool
is_bare n x = not (is_some x.stamp) && same_name x.by n

abbrev pub bare_in_row : TxnName → StampedVersions → Bool
bare_in_row n r = list_any (is_bare n) r.pairs || list_any (is_bare n) r.touches

abbrev pub bare_in_cell : TxnName → Option CellState → Bool
bare_in_cell n None = false
bare_in_cell n (Some c) =
    list_any (λ row. covers c.segment row.0 && bare_in_row n (versions_at c.segment row.0)) c.segment.rows

abbrev pub any_below : (ℕ → Bool) → ℕ → Bool
any_below test zero = false
any_below test (suc n) = test n || any_below test n

-- those that are of the store's passes
abbrev pub is_writer : Config → Sight → TxnName → Bool
is_writer z v n =
    nat_lt n.job z.passes && any_below (λ k. bare_in_cell n (kept_at v.cells k)) (cells_of z)

-- one of their records
pub record HasWriter (z : Config) (v : Sight) (n : TxnName) : Type 0 where
  pub number : ℕ
  pub cell : CellState
  pub key : Key
  pub stamped : Stamped
  pub record_in : HasRecordIn z v number cell key stamped
  pub bare : stamped.stamp ≡ None
  pub by : stamped.by ≡ n
  pub inside : n.job < z.passes

-- ---- what is answered

-- where a writer stands by its pass's word, for whoever has found this clock: what is not published there is
-- still open
abbrev pub state_at : ℕ → ℕ → State
state_at clock n = cond (nat_lt 2 n) (cond (nat_le (n - 2) clock) (Committed (n - 2)) Live)
    (cond (n == 1) Live Aborted)

-- looks that were kept say so
abbrev pub is_vouched : ℕ → List Look → TxnName → State → Bool
is_vouched clock ls by Live =
    list_any (λ l. same_name l.by by && ((l.word == 1) || nat_lt (clock + 2) l.word)) ls
is_vouched clock ls by (Committed stamp) = has_word ls by (stamp + 2)
is_vouched clock ls by Aborted = false

-- what a pass knows that asks
abbrev pub knowledge_at : Config → ℕ → ℕ → Sight → Knowledge
knowledge_at z p clock v = record {
  known = length (state_in v p).seen;
  stamps = stamp_in (state_in v p).seen;
  names = is_writer z v;
  vouched = is_vouched clock (state_in v p).looks;
}

-- ---- a pass that asks

-- who asks: of which table and store, the pass's number, what it knew when it began to ask, and the clock that it
-- had found
pub record Asking : Type 0 where
  pub table : TableId
  pub config : Config
  pub number : ℕ
  pub sight : Sight
  pub clock : ℕ

-- no one asks
abbrev pub no_table : TableId
no_table = record {
  words = 0;
  slots = 0;
  views_name = 0;
  atom = 0;
  block = 0;
  offset = 0;
  slot_names = [];
}

abbrev pub nobody : Asking
nobody = record {
  table = no_table;
  config = record { kind = Directed; leaves = 0; passes = 0; txns_per_pass = 0 };
  number = 0;
  sight = no_sight;
  clock = 0;
}

-- this pass asks now
abbrev pub asking_of : Store → Pass → ℕ → Asking
asking_of store pass clock = record {
  table = store.accounts.table.shared.table_id;
  config = store.accounts.config;
  number = pass.number;
  sight = pass.account.me.0;
  clock = clock;
}

-- what the pass lends, and what it keeps meanwhile
abbrev pub lent_part : Sight → Sight
lent_part v = record v { told = []; readers = []; reads = no_reads }

abbrev pub kept_part : Sight → Sight
kept_part v = record v { passes = []; pins = []; cells = []; indexes = []; journals = [] }

-- a word that was found is kept
abbrev pub word_kept : ℕ → TxnName → ℕ → Sight → Sight
word_kept p by n v =
    let st = state_in v p in with_pass v p (with_look st (look_at st by n))

-- only more words have been kept
pub record HasLooked (p : ℕ) (old new : Sight) : Type 0 where
  pub has : HasPass new p (record (state_in old p) { looks = (state_in new p).looks })
  pub others : (q : ℕ) → q ≢ p → kept_at new.passes q ≡ kept_at old.passes q
  pub pins : new.pins ≡ old.pins
  pub cells : new.cells ≡ old.cells
  pub indexes : new.indexes ≡ old.indexes
  pub journals : new.journals ≡ old.journals
  pub told : new.told ≡ old.told
  pub readers : new.readers ≡ old.readers
  pub reads : new.reads ≡ old.reads

-- a seat that this asker's pass has lent, since it had found the clock
pub record IsLentBy (asking : Asking) (table : TableId) (config : Config) (seat : Seat (Unit {0}) Sight)
    (number clock : ℕ) : Type 0 where
  pub table_is : table ≡ asking.table
  pub config_is : config ≡ asking.config
  pub number_is : number ≡ asking.number
  pub clock_is : clock ≡ asking.clock
  pub seat_is : seat.table_id ≡ asking.table
  pub slots : seat.me.1 ≡ []
  pub has : HasPass asking.sight asking.number (state_in asking.sight asking.number)
  pub published : length (state_in asking.sight asking.number).seen ≤ asking.clock
  pub looked : HasLooked asking.number (lent_part asking.sight) seat.me.0

-- only the account seat has stepped; it knows what this view has, and more words
pub record KnowsLooks (sight : Sight) (old new : Pass) : Type 0 where
  pub number : new.number ≡ old.number
  pub latch : new.latch ≡ old.latch
  pub buffers : new.buffers ≡ old.buffers
  pub table : new.account.table_id ≡ old.account.table_id
  pub slots : new.account.me.1 ≡ old.account.me.1
  pub looked : HasLooked old.number sight new.account.me.0

-- the snapshot is that of the pass's open transaction
pub record IsSnapshotOf (pass : Pass) (snapshot : Snapshot) : Type 0 where
  pub start : snapshot.start ≡ (state_of pass).start
  pub own : snapshot.own ≡ name_of_pass pass
  pub within : (state_of pass).start ≤ length (state_of pass).seen
