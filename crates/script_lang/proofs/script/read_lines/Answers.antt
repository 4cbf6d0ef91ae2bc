use Rattle.std.proofs.Common.{◌≡◌, ◌++◌, length, take, ap, sym, ◌∙◌}
use Rattle.std.proofs.lemmas.Result.{MatchResult-from_err}
use Rattle.script_lang.specs.Readings.{before_of}
use Rattle.script_lang.specs.Scripts.{Before, files_of}
use Rattle.script_lang.proofs.ScriptLemmas.{line_read, files_push, front_kept}
use Rattle.script_lang.proofs.script.read_lines.Goals as goal

pub lines-preserved : goal.lines-preserved
lines-preserved c =
    let step = c.in_ok-read_line.ensures.ok in
    record {
      read = rw (step.script, step.known) (line_read (before_of c.lines.reading c.lines.taken) c.lines.lines c.in-Some.line c.next.new.self c.lines.reading.script _ c.in-Some.ensures c.lines.invariant.read step.command step.read);
      names = ap (λ (b : Before). b.taken) step.known ∙ files_push c.args.taken.now c.lines.taken c.lines.reading.script step.command c.lines.invariant.names ∙ ap (λ script. c.args.taken.now ++ files_of script) (sym step.script);
      begun = step.begun;
    }

pub returns-in_err-read_line-clause-kept : goal.returns-in_err-read_line-clause-kept
returns-in_err-read_line-clause-kept c =
    let kept = front_kept c.args.taken.now c.lines.taken (files_of c.lines.reading.script) c.read_line.new.taken c.lines.invariant.names c.in_err-read_line.ensures.kept in
    MatchResult-from_err c.from_residual.result _ (λ _. take (length c.args.taken.now) c.read_line.new.taken ≡ c.args.taken.now) c.from_residual.ensures.0 (λ _. kept)
