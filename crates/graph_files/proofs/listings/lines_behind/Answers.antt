use Rattle.graphalytics_io.specs.FieldLines.{field_lines}
use Rattle.graph_files.proofs.EdgeLemmas.{skip_one}
use Rattle.graph_files.proofs.listings.lines_behind.Goals as goal

pub skipped-preserved : goal.skipped-preserved
skipped-preserved c = skip_one c.skipped._line (field_lines c.args.text.now) c.skipped.lines c.next.new.self c.next.result c.skipped.invariant c.next.ensures
