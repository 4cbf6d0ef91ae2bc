-- each turn takes a line or a field
use Rattle.std.proofs.Common.{length}
use Rattle.cases_files.proofs.lines.said_lines.Given as goal

abbrev pub decreases-lines : goal.decreases-lines
decreases-lines l = length l.lines

abbrev pub decreases-fields : goal.decreases-fields
decreases-fields l = length l.line.fields
