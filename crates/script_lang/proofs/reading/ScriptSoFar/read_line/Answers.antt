use Rattle.std.proofs.Common.{[], ◌∷◌, ◌++◌, Ok, ap, ap₂, ◌∙◌, arith, sym}
use Rattle.script_lang.specs.declared.reading.ScriptSoFar.{ScriptSoFar}
use Rattle.script_lang.specs.Readings.{before_of}
use Rattle.script_lang.proofs.LineLemmas.{allowed}
use Rattle.script_lang.proofs.reading.ScriptSoFar.read_line.Goals as goal

pub returns-clause-ok : goal.returns-clause-ok
returns-clause-ok c =
    let read = c.in-Ok.ensures ∙ ap Ok (sym c.in_ok-command.ensures) in
    let line = allowed (before_of c.args.self.now c.args.taken.now) c.args.line.number c.args.line.fields c.in_ok-command.command c.requires read in
    record {
      command = c.in_ok-command.command;
      read = read;
      script = c.in_ok-push.ensures.ok ∙ ap (λ (r : ScriptSoFar). r.script ++ c.in_ok-command.command ∷ []) c.follow.ensures;
      known = ap₂ before_of c.follow.ensures c.in_ok-take_file.ensures.ok;
      begun = omega (arith, ap (λ (r : ScriptSoFar). r.begun) c.follow.ensures, line.begins);
    }
