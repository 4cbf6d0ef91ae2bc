use Rattle.std.proofs.Common.{arith, subst, ◌≤◌}
use Rattle.graph_model.specs.declared.limits.TheConstants.{SEGMENT_ROWS}
use Rattle.std.specs.List.{AllByRecursion}
use Rattle.leaf_array.proofs.DivideLemmas.{first-share, others-have-room, room-here, shares-behind, each-behind, room-behind-first, all-divided, room-used}
use Rattle.leaf_array.proofs.neighbours.+divide.Goals as goal

pub level-requires-clause-rows : goal.level-requires-clause-rows
level-requires-clause-rows t c = first-share _ _ _ _ _ _ c.in-Some.ensures.cases.0 c.in-Some-split_first.ensures.cases.0 c.requires.shares

pub level-requires-clause-room : goal.level-requires-clause-room
level-requires-clause-room t c =
    others-have-room _ _ _ _ _ _ c.in-Some.ensures.cases.0 c.in-Some-split_first.ensures.cases.0 _ c.requires.shares c.requires.each c.requires.few

pub level-requires-clause-spare : goal.level-requires-clause-spare
level-requires-clause-spare t c = room-here _ _ _ _ _ _ c.in-Some.ensures.cases.0 c.in-Some-split_first.ensures.cases.0 c.requires.spare

pub divide-requires : goal.divide-requires
divide-requires t c =
    let are = c.in-Some.ensures.cases in
    let shares = c.in-Some-split_first.ensures.cases in
    let moves = c.level.ensures.moved in
    let few = subst (AllByRecursion (λ count. count ≤ SEGMENT_ROWS)) shares.0 c.requires.few in (
      omega (arith, are.1, moves.segments),
      (
        moves.chained.1,
        (
          shares-behind _ _ _ _ _ _ _ _ are.0 shares.0 c.requires.shares moves c.level.ensures.count,
          (
            each-behind _ _ _ _ _ _ _ _ are.0 shares.0 c.requires.each moves,
            (
              few.1,
              room-behind-first _ _ _ _ _ _ _ _ are.0 shares.0 c.requires.spare moves c.level.ensures.used,
            ),
          ),
        ),
      ),
    )

pub returns-clause-divided : goal.returns-clause-divided
returns-clause-divided t c =
    all-divided _ _ _ _ _ _ _ _ c.in-Some.ensures.cases.0 c.in-Some-split_first.ensures.cases.0 _ _ _ c.level.ensures.moved c.level.ensures.count c.divide.ensures.divided c.cut.ensures.cut

pub returns-clause-used : goal.returns-clause-used
returns-clause-used t c =
    room-used _ _ _ _ _ _ _ _ c.in-Some.ensures.cases.0 c.in-Some-split_first.ensures.cases.0 c.cut.new.segment c.divide.new.segments c.cut.new.rest c.level.ensures.moved c.level.ensures.used c.divide.ensures.used c.cut.ensures.used
