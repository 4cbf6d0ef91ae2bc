use Rattle.std.proofs.Common.{sym, subst}
use Rattle.graphalytics_io.specs.FieldLines.{field_lines}
use Rattle.graph_files.specs.EdgeFiles.{edge_of}
use Rattle.graph_files.specs.Kept.{IsFront, every_id}
use Rattle.source_run.proofs.input.parse_edges.Goals as goal

pub edges_of_front-requires-clause-front : goal.edges_of_front-requires-clause-front
edges_of_front-requires-clause-front g c κs within = subst (λ weights. IsFront (edge_of every_id weights) (field_lines c.args.text.now) c.args.front) (sym c.weights_of.ensures) c.requires.front
