use Rattle.std.proofs.Common.{sym, subst}
use Rattle.graphalytics_io.specs.FieldLines.{field_lines}
use Rattle.graph_files.specs.EdgeFiles.{edge_of}
use Rattle.graph_files.specs.Kept.{IsFront, every_id}
use Rattle.graph_files.proofs.edges.edges_of_front.Goals as goal

pub check-requires-clause-front : goal.check-requires-clause-front
check-requires-clause-front g c =
    subst (λ weights. IsFront (edge_of every_id weights) (field_lines c.args.text.now) c.args.front) (sym c.in_ok-checks.ensures.weights) c.requires.front
