use Rattle.std.proofs.Common.{◌≡◌, ℕ, ◌/◌, ◌%◌, ◌<◌, length, get_or}
use Rattle.density_tree.specs.Division.{share_of}
use Rattle.density_tree.proofs.division.spread_counts.Given as goal

abbrev pub invariant-segments : goal.invariant-segments
invariant-segments l = record {
  length : length l.counts ≡ 8;
  filled : (k : ℕ) → k < l.seg → get_or l.counts k 0 ≡ share_of l.fn.rows l.fn.segs k;
}
