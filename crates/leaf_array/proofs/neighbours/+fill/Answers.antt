use Rattle.std.proofs.Common.{arith, ◌∷◌}
use Rattle.leaf_array.proofs.SegmentLemmas.{count-behind, nothing-moves, none-used, chained-behind, room-behind, next-follows, records-take, records-of-next, moves-on, gained, room-used-left}
use Rattle.leaf_array.proofs.neighbours.+fill.Goals as goal

pub returns-then-rows-eq0-clause-moved : goal.returns-then-rows-eq0-clause-moved
returns-then-rows-eq0-clause-moved t c = nothing-moves _ c.requires.chained

pub returns-then-rows-eq0-clause-used : goal.returns-then-rows-eq0-clause-used
returns-then-rows-eq0-clause-used t c = none-used (c.args.segment.now ∷ c.args.rest.now) _

pub fill-requires : goal.fill-requires
fill-requires t c =
    let is = c.in-Some.ensures.cases in
    let behind = count-behind _ _ _ is.0 in (
      omega (arith, is.1),
      (
        chained-behind c.args.segment.now _ _ _ is.0 c.requires.chained,
        (
          omega (arith, behind, c.requires.rows, c.len.ensures.len, c.saturating_sub.ensures),
          (
            omega (arith, c.requires.room, c.len.ensures.len, c.len.ensures.sound.small, c.saturating_sub.ensures),
            room-behind c.args.segment.now _ _ _ is.0 c.requires.spare.1,
          ),
        ),
      ),
    )

pub move_left-requires-clause-neighbours : goal.move_left-requires-clause-neighbours
move_left-requires-clause-neighbours t c = next-follows c.args.segment.now _ _ _ _ _ c.in-Some.ensures.cases.0 c.requires.chained c.fill.ensures.moved

pub move_left-requires-clause-spare : goal.move_left-requires-clause-spare
move_left-requires-clause-spare t c =
    let some = records-of-next c.args.segment.now _ _ _ _ _ c.in-Some.ensures.cases.0 c.fill.ensures.moved in
    omega (arith, some, records-take c.args.rows c.fill.new.segment.rows, c.requires.spare.0)

pub returns-clause-moved : goal.returns-clause-moved
returns-clause-moved t c = moves-on c.args.segment.now _ _ _ _ _ _ _ _ c.in-Some.ensures.cases.0 c.requires.chained c.fill.ensures.moved c.move_left.ensures.moved

pub returns-clause-count : goal.returns-clause-count
returns-clause-count t c =
    gained c.args.segment.now _ _ _ _ c.move_left.ensures.moved (omega (arith, c.fill.ensures.count, c.len.ensures.len, c.saturating_sub.ensures))

pub returns-clause-used : goal.returns-clause-used
returns-clause-used t c =
    room-used-left c.args.segment.now _ c.fill.new.segment c.move_left.new.self c.move_left.new.right c.args.rows _ _ c.fill.new.rest c.in-Some.ensures.cases.0 c.fill.ensures.moved c.fill.ensures.used c.move_left.ensures.used c.move_left.ensures.spare
