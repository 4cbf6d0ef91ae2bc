use Rattle.std.proofs.Common.{refl, ap}
use Rattle.graph_model.specs.Rows.{rows}
use Rattle.run_model.specs.declared.command.Command.TheVariants as commands
use Rattle.line_runner.specs.declared.scan.ScanResult.TheVariants.{Rows}
use Rattle.line_runner.proofs.ScanLemmas.{fresh}
use Rattle.line_runner.proofs.scan.Scan.of_rows.Goals as goal

pub returns-clause-scan : goal.returns-clause-scan
returns-clause-scan c = λ g kernel file. fresh g (commands.Run kernel file) c.begin.result _ _ _ c.begin.ensures (λ i. rows g (c.of_vertex.ensures i) (c.end.ensures i)) (ap Rows c.new-rows.ensures) refl
