-- no row so far is followed by one with a lesser key
use Rattle.std.proofs.Common.{◌≡◌, ℕ, ◌+◌, ◌<◌, ◌≤◌, slice_index_or}
use Rattle.std.specs.Prelude.{false}
use Rattle.graph_model.specs.declared.row.Row.{Row}
use Rattle.graph_model.specs.Rows.{is_below}
use Rattle.load_order.proofs.order.are_sorted_alone.Given as goal

abbrev pub invariant-places : goal.invariant-places
invariant-places l = (k : ℕ) (d : Row) → l.low ≤ k → k < l.place → k + 1 < l.high → is_below (slice_index_or l.rows (k + 1) d).key (slice_index_or l.rows k d).key ≡ false
