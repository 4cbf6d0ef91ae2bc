use Rattle.std.proofs.Common.{refl, ap}
use Rattle.graph_model.specs.Rows.{rows}
use Rattle.run_model.specs.declared.command.Command.TheVariants as commands
use Rattle.run_model.specs.declared.command.Query.TheVariants.{NeighboursOf}
use Rattle.line_runner.specs.declared.scan.ScanResult.TheVariants.{Targets}
use Rattle.line_runner.proofs.ScanLemmas.{fresh}
use Rattle.line_runner.proofs.scan.Scan.of_arcs.Goals as goal

pub returns-clause-scan : goal.returns-clause-scan
returns-clause-scan c = λ g. fresh g (commands.Read (NeighboursOf c.args.v)) c.begin.result _ _ _ c.begin.ensures (ap (rows g (record { src = c.args.v; second = 1 })) c.of_vertex-until.ensures) (ap Targets c.new-ids.ensures) refl
