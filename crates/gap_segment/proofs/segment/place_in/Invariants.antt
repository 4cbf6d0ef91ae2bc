use Rattle.gap_segment.proofs.FencedLemmas.{IsNarrowed, IsCounted}
use Rattle.gap_segment.proofs.segment.place_in.Given as goal

-- the place is the key's, or among those behind it
abbrev pub invariant-quarters : goal.invariant-quarters
invariant-quarters l = IsNarrowed l.rows l.key l.place l.count

abbrev pub decreases-quarters : goal.decreases-quarters
decreases-quarters l = l.count

-- those that were looked at are counted
abbrev pub invariant-rest : goal.invariant-rest
invariant-rest l = IsCounted l.rows l.key l.i l.found
