use Rattle.std.proofs.Common.{sym}
use Rattle.graphalytics_io.specs.FieldLines.{field_lines}
use Rattle.graph_files.specs.EdgeFiles.{edge_of}
use Rattle.graph_files.specs.Kept.{every_id}
use Rattle.graph_files.proofs.UnrepeatedLemmas.{read_more}
use Rattle.graph_files.proofs.faultless.read_lines.Goals as goal

pub lines-preserved : goal.lines-preserved
lines-preserved c =
    read_more (edge_of every_id c.args.weights) (field_lines c.args.text.now) c.lines.edges c.push.new.self c.lines.lines c.next.new.self c.in-Some.line c.in-Ok.edge c.lines.invariant
    c.in-Some.ensures (sym c.in-Ok.ensures) c.in_ok-push.ensures.ok
