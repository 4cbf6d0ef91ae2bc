use Rattle.graph_image.proofs.GivenLemmas.{rows_ended}
use Rattle.line_runner.proofs.ViewLemmas.{all_kept}
use Rattle.line_runner.proofs.kept.KeptImage.of_scan.Goals as goal

pub finish-requires-clause-ended : goal.finish-requires-clause-ended
finish-requires-clause-ended g c κs within = rows_ended c.into_rows.result c.requires.graph.0 (all_kept c.requires.graph.0 c.args.scan c.requires.graph.1 c.into_rows.result c.into_rows.ensures)

pub finish-requires-clause-symmetric : goal.finish-requires-clause-symmetric
finish-requires-clause-symmetric g c κs within = λ undirected. (c.requires.graph.0, all_kept c.requires.graph.0 c.args.scan c.requires.graph.1 c.into_rows.result c.into_rows.ensures, c.requires.graph.2 undirected)

pub returns : goal.returns
returns g c = λ h has. record {
  shows = c.in_ok-image.ensures h (all_kept h c.args.scan has c.into_rows.result c.into_rows.ensures);
  counted = has.counted;
}
