use Rattle.std.proofs.Common.{[], ◌∙◌, sym}
use Rattle.command_words.proofs.NameLemmas.{three_behind}
use Rattle.command_words.proofs.command.RunWords.taken_behind_journal.Goals as goal

pub returns-in-None : goal.returns-in-None
returns-in-None c = rw c.in-None.is (c.taken_behind_schedule.ensures ∙ sym (three_behind _ _ _ _ c.args.place []))
