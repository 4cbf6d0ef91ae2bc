use Rattle.std.proofs.Common.{rules}
use Rattle.graphalytics_io.specs.FieldLines.{field_lines}
use Rattle.graph_files.specs.EdgeFiles.{edge_of}
use Rattle.graph_files.specs.Kept.{every_id}
use Rattle.graph_files.proofs.HalvesLemmas.{some_read, whole_front}
use Rattle.graph_files.proofs.faultless.read_front.Goals as goal

pub returns-in-Some : goal.returns-in-Some
returns-in-Some g c =
    whole_front (edge_of every_id c.args.weights) (field_lines c.args.text.now) c.in-Some.edges
    (some_read c.args.weights c.args.text.now c.in_ok-edges.field-0 c.in-Some.edges c.in_ok-edges.ensures (search rules))
