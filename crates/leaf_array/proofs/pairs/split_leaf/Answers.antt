use Rattle.std.proofs.Common.{◌∙◌, ◌-◌, ◌/◌, arith, ap, subst, length}
use Rattle.leaf_array.specs.Segments.{IsDivided}
use Rattle.leaf_array.proofs.CountLemmas.{same-chained, same-rows, same-length}
use Rattle.leaf_array.proofs.PairLemmas.{room-to-halve, room-for-halves, is-split}
use Rattle.leaf_array.proofs.pairs.split_leaf.Goals as goal

pub divide-requires-clause-chained : goal.divide-requires-clause-chained
divide-requires-clause-chained c = same-chained _ _ c.in_ok-reserve_both.ensures.left c.requires.left.chained

pub divide-requires-clause-spare : goal.divide-requires-clause-spare
divide-requires-clause-spare c =
    let ready = c.in_ok-reserve_both.ensures in
    room-to-halve c.args.left.now.segments c.args.right.now.segments c.reserve_both.new.left c.requires.left.segments ready.left ready.left_room

pub give_half-key-requires-clause-right : goal.give_half-key-requires-clause-right
give_half-key-requires-clause-right c =
    let same = c.in_ok-reserve_both.ensures.right in
    record {
      segments = same-length c.args.right.now.segments c.reserve_both.new.right same ∙ c.requires.right.segments;
      chained = same-chained c.args.right.now.segments c.reserve_both.new.right same c.requires.right.chained;
    }

pub give_half-key-requires-clause-empty : goal.give_half-key-requires-clause-empty
give_half-key-requires-clause-empty c =
    same-rows c.args.right.now.segments c.reserve_both.new.right c.in_ok-reserve_both.ensures.right ∙ c.requires.empty

pub divide_evenly-requires-clause-spare : goal.divide_evenly-requires-clause-spare
divide_evenly-requires-clause-spare c =
    let ready = c.in_ok-reserve_both.ensures in
    (room-for-halves c.args.left.now.segments c.args.right.now.segments c.reserve_both.new.left c.reserve_both.new.right c.divide.new.segments c.give_half-key.new.left c.give_half-key.new.right c.give_half-key.result
    c.requires.left.segments ready.left ready.left_room ready.right_room c.divide.ensures.divided.keeps c.divide.ensures.used c.give_half-key.ensures.gives c.give_half-key.ensures.room).0

pub divide_evenly-requires-2-clause-spare : goal.divide_evenly-requires-2-clause-spare
divide_evenly-requires-2-clause-spare c =
    let ready = c.in_ok-reserve_both.ensures in
    (room-for-halves c.args.left.now.segments c.args.right.now.segments c.reserve_both.new.left c.reserve_both.new.right c.divide.new.segments c.give_half-key.new.left c.give_half-key.new.right c.give_half-key.result
    c.requires.left.segments ready.left ready.left_room ready.right_room c.divide.ensures.divided.keeps c.divide.ensures.used c.give_half-key.ensures.gives c.give_half-key.ensures.room).1

pub returns-clause-ok : goal.returns-clause-ok
returns-clause-ok c =
    let same = c.in_ok-reserve_both.ensures.left in
    let rows = c.rows_in-rows.ensures.rows ∙ ap length (same-rows c.args.left.now.segments c.reserve_both.new.left same) in
    let given = c.rows_in-rows.result / 2 in
    is-split c.args.left.now.segments c.reserve_both.new.left c.divide.new.segments c.give_half-key.new.left c.divide_evenly.new.segments c.give_half-key.new.right c.divide_evenly-2.new.segments c.give_half-key.result
    (c.rows_in-rows.result - given) given same
    (subst (IsDivided c.reserve_both.new.left c.divide.new.segments) c.halves.ensures c.divide.ensures.divided) c.give_half-key.ensures.gives
    c.divide_evenly.ensures c.divide_evenly-2.ensures (omega (arith, rows)) (ap (λ n. n / 2) rows) (omega (arith, rows, c.requires.many))
