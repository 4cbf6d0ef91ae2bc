use Rattle.std.proofs.Common.{refl}
use Rattle.graph_model.specs.Rows.{rows}
use Rattle.run_model.specs.declared.command.Command.TheVariants as commands
use Rattle.run_model.specs.declared.command.Query.TheVariants.{Counts}
use Rattle.line_runner.proofs.ScanLemmas.{fresh}
use Rattle.line_runner.proofs.scan.Scan.of_counts.Goals as goal

pub returns-clause-scan : goal.returns-clause-scan
returns-clause-scan c = λ g. fresh g (commands.Read Counts) c.begin.result _ _ _ c.begin.ensures (λ i. rows g (c.of_vertex.ensures i) (c.end.ensures i)) refl refl
