-- Where other transactions stand, for a reader that asks by their passes' words and holds the rows that they wrote.
use Rattle.std.specs.Prelude.{◌≡◌, ℕ, ◌≤◌, true, List, [], ◌∷◌, length}
use Rattle.atomic_table.specs.Seated.{TableId}
use Rattle.atomic_table.specs.declared.shared.Seat.{Seat}
use Rattle.graph_model.specs.Transactions.{stamp_in}
use Rattle.txn_manager.specs.declared.config.Config.{Config}
use Rattle.undo_chain.specs.States.{Knowledge}
use Rattle.pass_steps.specs.RuleModel.Sight.{Sight}
use Rattle.pass_steps.specs.StoreRuleDeclared.store.Pass.{Pass}
use Rattle.pass_steps.specs.StoreRuleDeclared.store.Store.{Store}
use Rattle.pass_steps.specs.Asking.{Asking, is_writer}
use Rattle.pass_readers.specs.Readers.{read_in}

-- this reader asks now
abbrev pub asked_by : Store → Pass → ℕ → Asking
asked_by store reader clock = record {
  table = store.accounts.table.shared.table_id;
  config = store.accounts.config;
  number = reader.number;
  sight = reader.account.me.0;
  clock = clock;
}

-- what a reader knows that asks: it keeps no answer, so it vouches for each
abbrev pub knowledge_in : Config → Sight → Knowledge
knowledge_in z v = record {
  known = length (read_in v).seen;
  stamps = stamp_in (read_in v).seen;
  names = is_writer z v;
  vouched = λ by state. true;
}

-- the seat that a reader has lent, since it had found the clock
pub record IsLent (asking : Asking) (table : TableId) (config : Config) (seat : Seat (Unit {0}) Sight) (clock : ℕ)
    : Type 0 where
  pub table_is : table ≡ asking.table
  pub config_is : config ≡ asking.config
  pub clock_is : clock ≡ asking.clock
  pub seat_is : seat.table_id ≡ asking.table
  pub slots : seat.me.1 ≡ []
  pub sight_is : seat.me.0 ≡ asking.sight
  pub reads : asking.sight.readers ≡ read_in asking.sight ∷ []
  pub published : length (read_in asking.sight).seen ≤ asking.clock
