-- the edges so far are those of the lines so far, each by itself
use Rattle.std.proofs.Common.{length}
use Rattle.graphalytics_io.specs.FieldLines.{field_lines}
use Rattle.graph_files.specs.EdgeFiles.{edge_of}
use Rattle.graph_files.specs.Kept.{every_id}
use Rattle.graph_files.proofs.UnrepeatedLemmas.{ReadTo}
use Rattle.graph_files.proofs.faultless.read_lines.Given as goal

abbrev pub invariant-lines : goal.invariant-lines
invariant-lines l = ReadTo (edge_of every_id l.weights) (field_lines l.text) l.edges l.lines

abbrev pub decreases-lines : goal.decreases-lines
decreases-lines l = length l.lines
