-- the ids so far are those of the lines so far, each checked by itself
use Rattle.std.proofs.Common.{◌≤◌, length}
use Rattle.graphalytics_io.specs.FieldLines.{field_lines}
use Rattle.graph_files.specs.VertexFiles.{line_id}
use Rattle.graph_files.proofs.UnrepeatedLemmas.{ListsTo}
use Rattle.graph_files.proofs.vertices.read_unrepeated.Given as goal

abbrev pub invariant-lines : goal.invariant-lines
invariant-lines l = record {
  lists : ListsTo line_id (field_lines l.text) l.ids l.lines;
  few : length l.ids ≤ l.limit;
}

abbrev pub decreases-lines : goal.decreases-lines
decreases-lines l = length l.lines
