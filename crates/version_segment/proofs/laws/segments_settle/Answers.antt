use Rattle.version_segment.proofs.SettledLemmas.{segment_is_stamped, segment_settles}
use Rattle.version_segment.proofs.laws.segments_settle.Goals as goal

pub returns-clause-stamped : goal.returns-clause-stamped
returns-clause-stamped c = segment_is_stamped

pub returns-clause-settled : goal.returns-clause-settled
returns-clause-settled c = segment_settles
