-- the fields counted and those left are all
use Rattle.std.proofs.Common.{◌≡◌, ◌+◌, length}
use Rattle.graphalytics_io.proofs.line_fields.Fields.count.Given as goal

abbrev pub invariant-fields : goal.invariant-fields
invariant-fields l = l.count + length l.left ≡ length l.self

abbrev pub decreases-fields : goal.decreases-fields
decreases-fields l = length l.left
