use Rattle.version_segment.proofs.WordLemmas.{wakes_rested, can_wake, rests_woken}
use Rattle.version_segment.proofs.laws.segments_rest_and_wake.Goals as goal

pub returns-clause-wakes : goal.returns-clause-wakes
returns-clause-wakes c = wakes_rested

pub returns-clause-can : goal.returns-clause-can
returns-clause-can c = can_wake

pub returns-clause-rests : goal.returns-clause-rests
returns-clause-rests c = rests_woken
