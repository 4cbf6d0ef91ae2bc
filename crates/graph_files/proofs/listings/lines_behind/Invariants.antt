-- so many lines are skipped
use Rattle.std.proofs.Common.{◌≡◌, drop}
use Rattle.graphalytics_io.specs.FieldLines.{field_lines}
use Rattle.graph_files.proofs.listings.lines_behind.Given as goal

abbrev pub invariant-skipped : goal.invariant-skipped
invariant-skipped l = l.lines ≡ drop l._line (field_lines l.text)
