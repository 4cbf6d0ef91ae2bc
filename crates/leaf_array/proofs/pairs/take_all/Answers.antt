use Rattle.std.proofs.Common.{◌≡◌, ◌++◌, arith, length, refl, subst, sym}
use Rattle.leaf_array.specs.Leaves.{IsPlaced, KeepRoom, TakesAll}
use Rattle.leaf_array.proofs.PairLemmas.{high-read}
use Rattle.leaf_array.proofs.MergeLemmas.{all-taken, placed-both, room-taken}
use Rattle.leaf_array.proofs.pairs.take_all.Goals as goal

pub returns-clause-takes : goal.returns-clause-takes
returns-clause-takes c =
    let free = c.split_at_mut-free in
    let moved = c.split_at_mut-moved in
    let ends = c.place_all.new.segments ++ c.place_all-2.new.segments in
    let four : length moved.result.1.now ≡ 4 = omega (arith, moved.ensures.back_len, c.requires.right.leaf.segments) in
    let placed = subst (λ ss. IsPlaced c.high-high.result ss c.place_all.new.segments) c.swap_with_slice.ensures.other_after c.place_all.ensures in
    subst (λ ss. TakesAll c.args.left.now c.args.right.now (free.result.0.now ++ ss) ends) (sym c.swap_with_slice.ensures.after)
    (all-taken c.args.left.now c.args.right.now free.result.0.now free.result.1.now moved.result.0.now moved.result.1.now ends c.high-high.result
    free.ensures.value moved.ensures.value free.ensures.front_len moved.ensures.front_len c.requires.left c.requires.right c.requires.neighbours
    (high-read moved.result.1.now moved.result.1.now c.index-rest-3.result c.high-high.result refl four c.index-rest-3.is c.high-high.ensures)
    (placed-both c.high-high.result free.result.1.now moved.result.1.now c.place_all.new.segments c.place_all-2.new.segments placed c.place_all-2.ensures))

pub returns-clause-room : goal.returns-clause-room
returns-clause-room c =
    let free = c.split_at_mut-free in
    let moved = c.split_at_mut-moved in
    let ends = c.place_all.new.segments ++ c.place_all-2.new.segments in
    let four : length moved.result.1.now ≡ 4 = omega (arith, moved.ensures.back_len, c.requires.right.leaf.segments) in
    let placed = subst (λ ss. IsPlaced c.high-high.result ss c.place_all.new.segments) c.swap_with_slice.ensures.other_after c.place_all.ensures in
    subst (λ ss. KeepRoom c.args.left.now c.args.right.now (free.result.0.now ++ ss) ends) (sym c.swap_with_slice.ensures.after)
    (room-taken c.args.left.now c.args.right.now free.result.0.now free.result.1.now moved.result.0.now moved.result.1.now ends c.high-high.result
    free.ensures.value moved.ensures.value free.ensures.front_len moved.ensures.front_len c.requires.left c.requires.right c.requires.neighbours
    (high-read moved.result.1.now moved.result.1.now c.index-rest-3.result c.high-high.result refl four c.index-rest-3.is c.high-high.ensures)
    (placed-both c.high-high.result free.result.1.now moved.result.1.now c.place_all.new.segments c.place_all-2.new.segments placed c.place_all-2.ensures))
