use Rattle.std.proofs.Common.{arith, ◌∷◌, ◌-◌, length, subst}
use Rattle.leaf_array.specs.Segments.{records_of, HaveRoom}
use Rattle.leaf_array.proofs.SegmentLemmas.{count-behind, nothing-moves, none-used, chained-behind, room-behind, next-follows, records-drop, records-behind, moves-on, lost, room-used-right}
use Rattle.leaf_array.proofs.neighbours.+spill.Goals as goal

pub returns-then-rows-eq0-clause-moved : goal.returns-then-rows-eq0-clause-moved
returns-then-rows-eq0-clause-moved t c = nothing-moves _ c.requires.chained

pub returns-then-rows-eq0-clause-used : goal.returns-then-rows-eq0-clause-used
returns-then-rows-eq0-clause-used t c = none-used c.args.rest.now _

pub spill-requires : goal.spill-requires
spill-requires t c =
    let is = c.in-Some.ensures.cases in
    let behind = count-behind _ _ _ is.0 in
    let room = room-behind c.args.segment.now _ _ _ is.0 c.requires.spare in (
      omega (arith, is.1),
      (
        chained-behind c.args.segment.now _ _ _ is.0 c.requires.chained,
        (
          omega (arith, c.requires.few, c.room.ensures, c.saturating_sub.ensures),
          (
            omega (arith, c.requires.few, c.saturating_sub.ensures),
            ((λ some. omega (arith, some, behind, is.1, c.requires.room, c.room.ensures, c.saturating_sub.ensures)), room.1),
          ),
        ),
      ),
    )

pub move_right-requires-clause-neighbours : goal.move_right-requires-clause-neighbours
move_right-requires-clause-neighbours t c = next-follows c.args.segment.now _ _ _ _ _ c.in-Some.ensures.cases.0 c.requires.chained c.spill.ensures.moved

pub move_right-requires-clause-spare : goal.move_right-requires-clause-spare
move_right-requires-clause-spare t c =
    let is = c.in-Some.ensures.cases.0 in
    let has = subst (HaveRoom (records_of (c.args.segment.now ∷ c.args.rest.now))) is c.requires.spare in
    let all = records-behind c.args.segment.now _ _ _ is in
    omega (arith, all, has.0, records-drop (length c.args.segment.now.rows - c.args.rows) c.args.segment.now.rows, c.spill.ensures.kept)

pub returns-clause-moved : goal.returns-clause-moved
returns-clause-moved t c = moves-on c.args.segment.now _ _ _ _ _ _ _ _ c.in-Some.ensures.cases.0 c.requires.chained c.spill.ensures.moved c.move_right.ensures.moved

pub returns-clause-count : goal.returns-clause-count
returns-clause-count t c = lost c.args.segment.now _ _ _ _ c.move_right.ensures.moved c.requires.rows

pub returns-clause-used : goal.returns-clause-used
returns-clause-used t c =
    room-used-right c.args.segment.now _ c.spill.new.segment c.move_right.new.right (length c.args.segment.now.rows - c.args.rows) _ _ c.spill.new.rest c.in-Some.ensures.cases.0 c.spill.ensures.kept c.spill.ensures.used c.move_right.ensures.used
