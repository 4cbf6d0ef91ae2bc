-- none of the answers so far is `full`
use Rattle.std.proofs.Common.{◌≡◌, false, take}
use Rattle.std.specs.List.{list_any}
use Rattle.teseo_program.specs.Outcomes.{is_full}
use Rattle.teseo_program.proofs.outputs.is_full_report.Given as goal

abbrev pub invariant-answers : goal.invariant-answers
invariant-answers l = list_any is_full (take l.answer-index l.answers) ≡ false
