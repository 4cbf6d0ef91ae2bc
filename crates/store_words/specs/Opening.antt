-- The words that a store begins with.
use Rattle.std.specs.Prelude.{ℕ, List, [], ◌∷◌}
use Rattle.std.specs.declared.alloc.Global.{Global}
use Rattle.atomic_table.specs.Table.{opening}
use Rattle.graph_model.specs.declared.row.Key.{Key}
use Rattle.graph_model.specs.Rows.{end_key}
use Rattle.txn_manager.specs.declared.config.Config.{Config}
use Rattle.rule_model.specs.EndSteps.{zeros}
use Rattle.rule_model.specs.Places.{lines}
use Rattle.rule_model.specs.Rule.{IsStoreRule}
use Rattle.rule_model.specs.Sight.{Sight}

-- a table may begin with these words and one seat that knows this, wherever leaves would lie
abbrev pub Begin : Config → List ℕ → Sight → Type 0
Begin z words sight = (heap : Global) → IsStoreRule z (lines z.passes) heap (opening words [] sight)

-- the block of a cell without rows that covers all keys from this one on
abbrev pub empty_block : Key → List ℕ
empty_block low = 0 ∷ 0 ∷ low.src ∷ low.second ∷ end_key.src ∷ end_key.second ∷ zeros 96
