use Rattle.std.proofs.Common.{sym, subst, ap, ◌∙◌}
use Rattle.run_model.specs.declared.command.Command.TheVariants as commands
use Rattle.graph_model.specs.declared.limits.TheConstants.{SCAN_ROWS}
use Rattle.std.specs.Prelude.{◌/◌}
use Rattle.line_runner.specs.declared.reading.LineReading.TheVariants as readings
use Rattle.line_runner.specs.Scanning.{IsReading, taken_by}
use Rattle.line_runner.specs.Turns.{view_now}
use Rattle.line_runner.proofs.TurnLemmas.{reading_or, advances}
use Rattle.line_runner.proofs.line.advance.Goals as goal

pub into_scan-scan-requires : goal.into_scan-scan-requires
into_scan-scan-requires g c =
    let view = view_now (g.E.Engine.account c.args.engine.now) in
    let query = c.requires.scans.0 in
    let s = reading_or view c.args.before (commands.Read query) (readings.Scan c.args.fresh) c.requires.scans.1 (ap (λ n. n / SCAN_ROWS) c.requires.empty) c.requires.scans.2 in
    (view, query, subst (IsReading view (commands.Read query)) (sym c.unwrap_or.ensures) s.0)

pub step-requires-clause-scan : goal.step-requires-clause-scan
step-requires-clause-scan g c =
    let view = view_now (g.E.Engine.account c.args.engine.now) in
    let query = c.requires.scans.0 in
    let s = reading_or view c.args.before (commands.Read query) (readings.Scan c.args.fresh) c.requires.scans.1 (ap (λ n. n / SCAN_ROWS) c.requires.empty) c.requires.scans.2 in
    (commands.Read query, subst (IsReading view (commands.Read query)) (sym c.unwrap_or.ensures ∙ c.into_scan-scan.ensures) s.0)

pub returns-clause-advances : goal.returns-clause-advances
returns-clause-advances g c = λ query some fresh.
    let account = g.E.Engine.account c.args.engine.now in
    let view = view_now account in
    let same = sym c.unwrap_or.ensures ∙ c.into_scan-scan.ensures in
    let s = reading_or view c.args.before (commands.Read query) (readings.Scan c.args.fresh) some (ap (λ n. n / SCAN_ROWS) c.requires.empty) fresh in
    let scan = subst (IsReading view (commands.Read query)) same s.0 in
    advances (view_now account) c.args.before (commands.Read query) c.into_scan-scan.result c.step.new.self scan (ap taken_by (sym same) ∙ s.1) (c.in_ok-step.ensures.ok (commands.Read query) scan)
