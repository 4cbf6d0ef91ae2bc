use Rattle.std.proofs.Common.{◌≡◌, ◌+◌, ◌≤◌, arith}
use Rattle.room_choice.specs.Choice.{IsCrowded}
use Rattle.room_choice.proofs.ChoiceLemmas.{is_crowded, leaves_places}
use Rattle.room_choice.proofs.choice.choose_room.Goals as goal

pub returns-in-Some : goal.returns-in-Some
returns-in-Some c = record {
  short = λ h. let has = c.if-from-le-SEGMENT_ROWS.false in omega (arith, has, h);
  smallest = c.in-Some.ensures.smallest;
  round = c.in-Some.ensures.round;
  places = leaves_places c.args.counts c.args.need c.args.segment c.in-Some.window c.in-Some.ensures.smallest;
}

pub returns-in-None : goal.returns-in-None
returns-in-None c = (
  record {
    short = λ h. let has = c.if-from-le-SEGMENT_ROWS.false in omega (arith, has, h);
    windows = c.in-None.ensures.smallest;
    rows = is_crowded c.args.counts c.args.need c.args.segment c.requires.segment c.requires.few
        c.in-None.ensures.smallest;
  },
  c.if-free-gt0.true,
)

pub returns-in-None-2 : goal.returns-in-None-2
returns-in-None-2 c = (
  record {
    short = λ h. let has = c.if-from-le-SEGMENT_ROWS.false in omega (arith, has, h);
    windows = c.in-None.ensures.smallest;
    rows = is_crowded c.args.counts c.args.need c.args.segment c.requires.segment c.requires.few
        c.in-None.ensures.smallest;
  },
  let none = c.if-free-gt0.false in omega (arith, none),
)
