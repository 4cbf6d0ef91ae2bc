use Rattle.std.proofs.Common.{sym, subst, ap, ◌∙◌}
use Rattle.std.proofs.lemmas.Result.{IfOk-weaker}
use Rattle.line_runner.specs.Scanning.{IsReading, taken_by}
use Rattle.run_model.specs.declared.command.Command.TheVariants as commands
use Rattle.line_runner.specs.Turns.{view_now}
use Rattle.line_runner.proofs.TurnLemmas.{reading_or}
use Rattle.line_runner.proofs.kernel_line.read_image.Goals as goal

pub read_rows-requires-clause-scans : goal.read_rows-requires-clause-scans
read_rows-requires-clause-scans g c κs within =
    let view = view_now (g.E.Engine.account c.args.engine.now) in
    let kernel = c.requires.reads.0 in
    let file = c.requires.reads.1 in
    let s = reading_or view c.args.before (commands.Run kernel file) c.of_image.result c.requires.reads.2 c.of_image.ensures.none (c.of_image.ensures.reading view kernel file c.requires.kept) in
    (kernel, file, subst (IsReading view (commands.Run kernel file)) (sym c.unwrap_or.ensures ∙ c.in-Scan.is) s.0)

pub returns-in-Scan-clause-reads : goal.returns-in-Scan-clause-reads
returns-in-Scan-clause-reads g c =
    let account = g.E.Engine.account c.args.engine.now in
    let view = view_now account in
    let same = sym c.unwrap_or.ensures ∙ c.in-Scan.is in
    IfOk-weaker c.read_rows.result _ _
    (λ turn reads kernel file some.
    let s = reading_or view c.args.before (commands.Run kernel file) c.of_image.result some c.of_image.ensures.none (c.of_image.ensures.reading view kernel file c.requires.kept) in
    reads c.args.before kernel file (sym s.1 ∙ ap taken_by same) (subst (IsReading view (commands.Run kernel file)) same s.0))
    c.read_rows.ensures.reads

pub returns-in-Replay-clause-reads : goal.returns-in-Replay-clause-reads
returns-in-Replay-clause-reads g c = λ kernel file some.
    let account = g.E.Engine.account c.args.engine.now in
    let view = view_now account in
    let s = reading_or view c.args.before (commands.Run kernel file) c.of_image.result some c.of_image.ensures.none (c.of_image.ensures.reading view kernel file c.requires.kept) in
    let same = sym c.unwrap_or.ensures ∙ c.in-Replay.is in
    let is = subst (IsReading view (commands.Run kernel file)) same s.0 in
    c.replay.ensures view c.args.before kernel file (sym s.1 ∙ ap taken_by same) is.0
