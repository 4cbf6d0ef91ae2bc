use Rattle.store_relation.proofs.StepLemmas.{notes, refreshes}
use Rattle.store_relation.proofs.MeetLemmas.{passes_meet}
use Rattle.store_relation.proofs.laws.notes_keep_the_rule.Goals as goal

pub returns-clause-notes : goal.returns-clause-notes
returns-clause-notes c = λ z word pass j rows clock s. notes s

pub returns-clause-refresh : goal.returns-clause-refresh
returns-clause-refresh c = λ z word pass j rows clock s. refreshes s

pub returns-clause-meet : goal.returns-clause-meet
returns-clause-meet c = λ z word pass j rows clock s. passes_meet s
