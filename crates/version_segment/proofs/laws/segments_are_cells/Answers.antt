use Rattle.version_segment.proofs.LawLemmas.{contents_of_segment}
use Rattle.version_segment.proofs.laws.segments_are_cells.Goals as goal

pub returns : goal.returns
returns c = contents_of_segment
