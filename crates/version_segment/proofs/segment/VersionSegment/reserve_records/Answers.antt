use Rattle.row_table.proofs.ChangeLemmas.{same_parts}
use Rattle.version_segment.proofs.segment.VersionSegment.reserve_records.Goals as goal

pub invariant_of-self : goal.invariant_of-self
invariant_of-self c = same_parts _ _ _ _ c.reserve.ensures.kept c.self.invariant

pub invariant_of-self-in_err-reserve-2 : goal.invariant_of-self-in_err-reserve-2
invariant_of-self-in_err-reserve-2 c = rw c.reserve-2.ensures.kept (same_parts _ _ _ _ c.reserve.ensures.kept c.self.invariant)

pub invariant_of-self-2 : goal.invariant_of-self-2
invariant_of-self-2 c = rw c.reserve-2.ensures.kept (same_parts _ _ _ _ c.reserve.ensures.kept c.self.invariant)
