use Rattle.std.proofs.Common.{◌<◌, arith}
use Rattle.row_table.proofs.HandLemmas.{can_rest, hands_all}
use Rattle.row_table.proofs.hand.+hand_each.Goals as goal

pub hand_each-requires : goal.hand_each-requires
hand_each-requires t c =
    let lt : c.args.place < c.args.until = omega (arith, c.requires.order) in (
      omega (arith, lt),
      can_rest _ _ _ _ _ _ _ c.requires lt _ _ _ _ c.hand_over.ensures,
    )

pub returns : goal.returns
returns t c =
    let lt : c.args.place < c.args.until = omega (arith, c.requires.order) in
    hands_all _ _ _ _ _ _ _ c.requires lt _ _ _ _ c.hand_over.ensures _ _ _ _ c.hand_each.ensures
