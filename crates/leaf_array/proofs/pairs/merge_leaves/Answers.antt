use Rattle.std.proofs.Common.{ap, arith, length}
use Rattle.leaf_array.proofs.CountLemmas.{same-rows}
use Rattle.leaf_array.proofs.MergeLemmas.{is-merged, room-to-divide, room-to-pack-left, room-to-pack-right, same-leaf, still-meet}
use Rattle.leaf_array.proofs.pairs.merge_leaves.Goals as goal

pub pack-requires-clause-leaf : goal.pack-requires-clause-leaf
pack-requires-clause-leaf c = same-leaf c.args.left.now.segments c.reserve_both.new.left c.in_ok-reserve_both.ensures.left c.requires.left

pub pack-requires-clause-few : goal.pack-requires-clause-few
pack-requires-clause-few c =
    omega (arith, c.requires.few, ap length (same-rows c.args.left.now.segments c.reserve_both.new.left c.in_ok-reserve_both.ensures.left))

pub pack-requires-clause-spare : goal.pack-requires-clause-spare
pack-requires-clause-spare c =
    let ready = c.in_ok-reserve_both.ensures in
    room-to-pack-left c.args.left.now.segments c.args.right.now.segments c.reserve_both.new.left c.requires.left ready.left ready.left_room

pub pack-requires-2-clause-leaf : goal.pack-requires-2-clause-leaf
pack-requires-2-clause-leaf c = same-leaf c.args.right.now.segments c.reserve_both.new.right c.in_ok-reserve_both.ensures.right c.requires.right

pub pack-requires-2-clause-few : goal.pack-requires-2-clause-few
pack-requires-2-clause-few c =
    omega (arith, c.requires.few, ap length (same-rows c.args.right.now.segments c.reserve_both.new.right c.in_ok-reserve_both.ensures.right))

pub pack-requires-2-clause-spare : goal.pack-requires-2-clause-spare
pack-requires-2-clause-spare c =
    let ready = c.in_ok-reserve_both.ensures in
    room-to-pack-right c.args.left.now.segments c.args.right.now.segments c.reserve_both.new.right c.requires.right ready.right ready.right_room

pub take_all-requires-clause-neighbours : goal.take_all-requires-clause-neighbours
take_all-requires-clause-neighbours c =
    let ready = c.in_ok-reserve_both.ensures in
    still-meet c.args.left.now.segments c.args.right.now.segments c.reserve_both.new.left c.reserve_both.new.right c.pack.new.segments c.pack-2.new.segments
    ready.left ready.right c.pack.ensures.keeps c.pack-2.ensures.keeps c.requires.neighbours

pub divide_evenly-requires-clause-spare : goal.divide_evenly-requires-clause-spare
divide_evenly-requires-clause-spare c =
    let ready = c.in_ok-reserve_both.ensures in
    room-to-divide c.args.left.now.segments c.args.right.now.segments c.reserve_both.new.left c.reserve_both.new.right c.pack.new.segments c.pack-2.new.segments
    ready.left ready.right c.pack.ensures.keeps c.pack-2.ensures.keeps c.take_all.new.left c.take_all.new.right c.requires.left c.requires.right ready.left_room ready.right_room
    c.pack.ensures.used c.pack-2.ensures.used c.take_all.ensures.takes c.take_all.ensures.room

pub returns-clause-ok : goal.returns-clause-ok
returns-clause-ok c =
    let ready = c.in_ok-reserve_both.ensures in
    is-merged c.args.left.now.segments c.args.right.now.segments c.reserve_both.new.left c.reserve_both.new.right c.pack.new.segments c.pack-2.new.segments
    ready.left ready.right c.pack.ensures.keeps c.pack-2.ensures.keeps c.take_all.new.left c.take_all.new.right c.divide_evenly.new.segments c.take_all.ensures.takes c.divide_evenly.ensures
