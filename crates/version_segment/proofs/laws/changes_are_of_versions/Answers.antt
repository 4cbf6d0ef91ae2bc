use Rattle.version_segment.proofs.LawLemmas.{written_is_write, undone_is_undo, touched_is_touch, untouched_is_untouch, stamps_stay_right}
use Rattle.version_segment.proofs.laws.changes_are_of_versions.Goals as goal

pub returns-clause-write : goal.returns-clause-write
returns-clause-write c = written_is_write

pub returns-clause-undo : goal.returns-clause-undo
returns-clause-undo c = undone_is_undo

pub returns-clause-touch : goal.returns-clause-touch
returns-clause-touch c = touched_is_touch

pub returns-clause-untouch : goal.returns-clause-untouch
returns-clause-untouch c = untouched_is_untouch

pub returns-clause-stamps : goal.returns-clause-stamps
returns-clause-stamps c = stamps_stay_right
