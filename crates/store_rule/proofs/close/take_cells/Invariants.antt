use Rattle.std.proofs.Common.{◌≡◌, ◌+◌, ◌≤◌, length}
use Rattle.std.specs.Prelude.{reverse, vec_capacity}
use Rattle.loaded_cells.specs.RuleModel.Sight.{cells_of}
use Rattle.store_rule.specs.Closed.{AreAtRestFrom}
use Rattle.store_rule.specs.Closing.{AreSlotsBelow, IsEnding, KeepsOthers}
use Rattle.store_rule.proofs.close.take_cells.Given as goal

abbrev pub invariant-slots : goal.invariant-slots
invariant-slots l =
    AreSlotsBelow l.accounts.config l.accounts.table.shared.table_id (length l.slots.items) l.slots.items
    × (length l.slots.items + l._cell ≡ cells_of l.accounts.config)
    × (length l.cells.items ≡ l._cell)
    × (cells_of l.accounts.config ≤ vec_capacity l.cells)
    × IsEnding l.accounts.table.shared.table_id l.account
    × KeepsOthers l.fn.account.me.0 l.account.me.0
    × AreAtRestFrom l.account.me.0 (length l.slots.items) (reverse l.cells.items)
