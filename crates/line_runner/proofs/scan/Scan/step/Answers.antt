use Rattle.std.proofs.Common.{◌≡◌, ◌∙◌, ◌+◌, ◌<◌, ◌^◌, ap, sym, length, subst}
use Rattle.std.proofs.lemmas.Result.{on_ok_weaker}
use Rattle.graph_model.specs.Scans.{rows_left, ScansBy}
use Rattle.line_runner.specs.Scanning.{with_rows, FitIn}
use Rattle.line_runner.specs.Turns.{view_now}
use Rattle.line_runner.proofs.CoreLemmas.{view_is}
use Rattle.line_runner.proofs.ViewLemmas.{seen_now}
use Rattle.line_runner.proofs.BuildLemmas.{fits}
use Rattle.line_runner.proofs.ScanLemmas.{step_is}
use Rattle.line_runner.proofs.scan.Scan.step.Goals as goal

pub take_in-requires-clause-fit : goal.take_in-requires-clause-fit
take_in-requires-clause-fit g c =
    let account = g.E.Engine.account c.args.engine.now in
    let old = c.args.self.now in
    let given = c.as_slice-given.ensures in
    let by : ScansBy (view_now account) old.cursor c.scan_step.new.cursor c.scan_step.new.rows =
    view_is (λ x. ScansBy x old.cursor c.scan_step.new.cursor c.scan_step.new.rows) account c.requires.current c.scan_step.ensures.answer in
    let count : c.in-Some.count ≡ old.rows + length c.scan_step.new.rows = c.in-Some.ensures.1 ∙ ap (λ xs. old.rows + length xs) given in
    let scan = c.requires.scan.1 in
    let are = seen_now account c.requires.valid c.requires.current in
    subst (λ more. FitIn old.result more c.in-Some.count) (sym given) (fits (view_now account) are.rows are.bounded c.requires.scan.0 scan.given c.scan_step.new.rows (rows_left (view_now account) old.cursor) c.in-Some.count old.result scan.result scan.whole by.gave
    (count ∙ ap (λ n. n + length c.scan_step.new.rows) scan.counted))

pub returns-clause-ok : goal.returns-clause-ok
returns-clause-ok g c =
    let account = g.E.Engine.account c.args.engine.now in
    let given = c.as_slice-given.ensures in
    let by : ScansBy (view_now account) c.args.self.now.cursor c.scan_step.new.cursor c.scan_step.new.rows =
    view_is (λ x. ScansBy x c.args.self.now.cursor c.scan_step.new.cursor c.scan_step.new.rows) account c.requires.current c.scan_step.ensures.answer in
    let count : c.in-Some.count ≡ c.args.self.now.rows + length c.scan_step.new.rows = c.in-Some.ensures.1 ∙ ap (λ xs. c.args.self.now.rows + length xs) given in
    let small : c.in-Some.count < 2 ^ 64 = subst (λ n. n < 2 ^ 64) (sym c.in-Some.ensures.1) c.in-Some.ensures.0 in
    on_ok_weaker c.take_in.result
    (λ kept. step_is (view_now account) c.args.self.now (record { cursor = c.scan_step.new.cursor; rows = c.in-Some.count; result = c.take_in.new.self }) c.scan_step.new.rows
    by count (kept ∙ ap (with_rows c.args.self.now.result) given) small)
    c.take_in.ensures
