use Rattle.std.proofs.Common.{◌≡◌, ◌≤◌, ◌-◌, length}
use Rattle.part_scan.specs.Parts.{rows_in}
use Rattle.worker_calls.proofs.one_list.filled_up.Given as goal

abbrev pub invariant-lists : goal.invariant-lists
invariant-lists l = (rows_in l.lists ≡ rows_in l.fn.lists) × (length l.lists ≤ l.count)

abbrev pub decreases-lists : goal.decreases-lists
decreases-lists l = l.count - length l.lists
