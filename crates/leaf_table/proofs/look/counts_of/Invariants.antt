use Rattle.leaf_array.specs.Segments.{count_of}
use Rattle.leaf_table.proofs.LookLemmas.{IsRead}
use Rattle.leaf_table.proofs.look.counts_of.Given as goal

abbrev pub invariant-segments : goal.invariant-segments
invariant-segments l = IsRead count_of l.place l.counts l.leaf.segments
