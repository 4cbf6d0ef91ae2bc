use Rattle.version_segment.proofs.LawLemmas.{blocked_is_check}
use Rattle.version_segment.proofs.laws.checks_are_by_names.Goals as goal

pub returns : goal.returns
returns c = blocked_is_check
