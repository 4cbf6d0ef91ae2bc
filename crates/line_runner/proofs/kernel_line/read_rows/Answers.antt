use Rattle.std.proofs.Common.{refl, sym, ◌∙◌}
use Rattle.std.specs.Prelude.{Some}
use Rattle.run_model.specs.declared.command.Command.TheVariants as commands
use Rattle.line_runner.specs.declared.reading.LineReading.TheVariants as readings
use Rattle.line_runner.specs.Turns.{view_now}
use Rattle.line_runner.proofs.TurnLemmas.{advances}
use Rattle.line_runner.proofs.ViewLemmas.{has_all, seen_now}
use Rattle.line_runner.proofs.kernel_line.read_rows.Goals as goal

pub returns-then-not-scan-clause-reads : goal.returns-then-not-scan-clause-reads
returns-then-not-scan-clause-reads g c = λ before kernel file taken is.
    let account = g.E.Engine.account c.args.engine.now in
    (advances (view_now account) before (commands.Run kernel file) c.args.scan c.step.new.self is (sym taken) (c.in_ok-step.ensures.ok (commands.Run kernel file) is)).portion c.if-not-scan.true

pub of_scan-requires-clause-graph : goal.of_scan-requires-clause-graph
of_scan-requires-clause-graph g c κs within =
    let account = g.E.Engine.account c.args.engine.now in
    let kernel = c.requires.scans.0 in
    let file = c.requires.scans.1 in
    let is = c.requires.scans.2 in
    let ends = (advances (view_now account) (Some (readings.Scan c.args.scan)) (commands.Run kernel file) c.args.scan c.step.new.self is refl (c.in_ok-step.ensures.ok (commands.Run kernel file) is)).rest c.if-not-scan.false in (
      view_now account,
      has_all account c.requires.valid c.requires.current kernel file c.step.new.self ends.0,
      λ undirected. (seen_now account c.requires.valid c.requires.current).symmetric (sym c.kind-kind.ensures ∙ undirected),
    )

pub returns-clause-reads : goal.returns-clause-reads
returns-clause-reads g c = λ before kernel file taken is.
    let account = g.E.Engine.account c.args.engine.now in
    let ends = (advances (view_now account) before (commands.Run kernel file) c.args.scan c.step.new.self is (sym taken) (c.in_ok-step.ensures.ok (commands.Run kernel file) is)).rest c.if-not-scan.false in
    (c.in_ok-kept.ensures (view_now account) (has_all account c.requires.valid c.requires.current kernel file c.step.new.self ends.0), ends.1)
