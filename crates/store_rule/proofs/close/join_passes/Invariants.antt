use Rattle.std.proofs.Common.{◌≡◌, ◌<◌, ◌≤◌, ℕ, length, Some}
use Rattle.std.specs.Prelude.{slice_get}
use Rattle.latch_table.specs.Opening.{IsBack}
use Rattle.store_rule.specs.Closing.{HasJoined, IsEnding}
use Rattle.store_rule.specs.declared.store.Pass.{Pass}
use Rattle.store_rule.proofs.close.join_passes.Given as goal

abbrev pub invariant-passes : goal.invariant-passes
invariant-passes l =
    ((p : ℕ) (pass : Pass) → slice_get l.list.items p ≡ Some pass → slice_get l.fn.list.items p ≡ Some pass)
    × (length l.list.items ≤ length l.fn.list.items)
    × (l.latch.table_id ≡ l.fn.latch.table_id)
    × ((p : ℕ) → length l.list.items ≤ p → p < length l.fn.list.items → IsBack l.latch.me.0 p)
    × IsEnding l.accounts.table.shared.table_id l.account
    × HasJoined l.fn.list.items (length l.list.items) l.account.me.0

abbrev pub decreases-passes : goal.decreases-passes
decreases-passes l = length l.list.items
