-- A store that begins with the rows of a load: as if pass 0 had begun on a new one, made these
-- writes and committed, and all rows had been pruned then.
use Rattle.std.specs.Prelude.{◌≡◌, ℕ, ◌<◌, ◌≤◌, ◌==◌, cond, List, [], ◌∷◌, length, Some}
use Rattle.std.specs.List.{AllByRecursion}
use Rattle.graph_model.specs.declared.write.Write.{Write}
use Rattle.graph_model.specs.declared.journal.TxnName.{TxnName}
use Rattle.graph_model.specs.declared.journal.Commit.{Commit}
use Rattle.graph_model.specs.Graph.{apply_all, empty_graph}
use Rattle.graph_model.specs.Refused.{AllAllowed, IsWithinLimits}
use Rattle.graph_model.specs.Rows.{value_at}
use Rattle.graph_model.specs.Transactions.{commit_of}
use Rattle.txn_manager.specs.declared.config.Config.{Config}
use Rattle.store_relation.specs.Ends.{only_value}
use Rattle.store_relation.specs.Passes.{PassState, fresh_pass}
use Rattle.store_relation.specs.Shared.{IsShared, JournalState}
use Rattle.store_relation.specs.Words.{commit_word}

-- the first transaction of pass 0
abbrev pub load_name : TxnName
load_name = record { job = 0; number = 1 }

abbrev pub load_commit : List Write → Commit
load_commit load = commit_of [] load_name (record { start = 0; writes = load })

-- it has made the writes of the load and was answered the first stamp; no other pass has begun
abbrev pub loaded_pass : List Write → ℕ → PassState
loaded_pass load p = record fresh_pass {
  past = cond (p == 0) (record { writes = load; stamp = Some 1 } ∷ []) [];
  seen = cond (p == 0) (load_commit load ∷ []) [];
}

abbrev pub loaded_word : ℕ → ℕ
loaded_word p = cond (p == 0) (commit_word 0) 0

abbrev pub loaded_journal : List Write → ℕ → JournalState
loaded_journal load room = record { commits = load_commit load ∷ []; next = []; room = room }

-- LOAD: the rows of a load that the empty graph allows, each its value alone
abbrev pub LoadedStore : Type 0
LoadedStore =
    (z : Config) (load : List Write) (room : ℕ) → 1 ≤ z.passes → 1 ≤ z.txns_per_pass
    → 0 < length load → AllAllowed z.kind empty_graph load → AllByRecursion IsWithinLimits load
    → IsShared z loaded_word (loaded_pass load) (loaded_journal load room)
    (λ k. only_value (value_at (apply_all z.kind empty_graph load) k)) 1
