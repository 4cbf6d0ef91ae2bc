use Rattle.std.proofs.lemmas.Result.{IfOk-weaker}
use Rattle.graphalytics_io.specs.FieldLines.{field_lines}
use Rattle.script_lang.proofs.ScriptLemmas.{runnable}
use Rattle.script_lang.proofs.script.read_script.Goals as goal

pub returns-else-is_err-clause-runnable : goal.returns-else-is_err-clause-runnable
returns-else-is_err-clause-runnable c = IfOk-weaker c.read_lines-read.result _ _ (λ script read. runnable c.args.taken.now (field_lines c.args.text.now) script read) c.read_lines-read.ensures.ok
