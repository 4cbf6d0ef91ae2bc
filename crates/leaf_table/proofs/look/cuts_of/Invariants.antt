use Rattle.leaf_table.proofs.LookLemmas.{IsRead}
use Rattle.leaf_table.proofs.look.cuts_of.Given as goal

abbrev pub invariant-segments : goal.invariant-segments
invariant-segments l = IsRead (λ s. s.low) l.place l.cuts l.leaf.segments
