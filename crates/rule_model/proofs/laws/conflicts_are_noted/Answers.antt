use Rattle.rule_model.proofs.NoteStepLemmas.{holder_is_found, holder_is_answered, stamp_is_met, look_is_met}
use Rattle.rule_model.proofs.laws.conflicts_are_noted.Goals as goal

pub returns-clause-holder : goal.returns-clause-holder
returns-clause-holder c = holder_is_found

pub returns-clause-answer : goal.returns-clause-answer
returns-clause-answer c = holder_is_answered

pub returns-clause-stamp : goal.returns-clause-stamp
returns-clause-stamp c = stamp_is_met

pub returns-clause-look : goal.returns-clause-look
returns-clause-look c = look_is_met
