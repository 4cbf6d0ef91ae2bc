use Rattle.std.proofs.Common.{◌≡◌, ◌+◌, ◌≤◌, length}
use Rattle.latch_table.specs.Opening.{HasPasses}
use Rattle.loaded_cells.specs.RuleModel.Sight.{Sight}
use Rattle.store_rule.specs.Making.{AreDealtFrom, IsDealing}
use Rattle.store_rule.proofs.make.deal.Given as goal

abbrev pub invariant-passes : goal.invariant-passes
invariant-passes l =
    (l.number ≤ l.accounts.config.passes)
    × (l.latch.table_id ≡ l.fn.latch.table_id)
    × HasPasses l.latches.table.shared.key l.number l.latch.me.0
    × (length l.passes.items + l.number ≡ l.accounts.config.passes)
    × ((v : Sight) → IsDealing l.accounts.table.shared.table_id v l.accounts.config.passes l.fn.account
    → IsDealing l.accounts.table.shared.table_id v l.number l.account
    × AreDealtFrom l.latches.table.shared.key l.latches.table.shared.table_id l.accounts.table.shared.table_id v
    l.number l.passes.items)

abbrev pub decreases-passes : goal.decreases-passes
decreases-passes l = l.number
