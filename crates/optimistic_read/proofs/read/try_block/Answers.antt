use Rattle.std.proofs.Common.{◌≡◌, ◌%◌, arith}
use Rattle.optimistic_read.specs.Reads.{IsLookedUp}
use Rattle.optimistic_read.proofs.TryLemmas.{answered, valid_now}
use Rattle.optimistic_read.proofs.read.try_block.Goals as goal

pub decode-requires : goal.decode-requires
decode-requires c = record {
  valid = valid_now c.args.cell c.first_load-first.result c.second_load-second.result c.args.seat.now
      c.first_load-first.new.seat c.look_up-looked.new.seat c.second_load-second.new.seat
      c.first_load-first.ensures.begun c.look_up-looked.ensures.still c.second_load-second.ensures.ended
      (IsLookedUp c.look_up-looked.result c.args.key) c.look_up-looked.ensures.known c.if-second-first.false;
}

pub returns-clause-tried : goal.returns-clause-tried
returns-clause-tried c p st has stage =
    let not_odd = c.if-first-eq1.false in
    let even : c.first_load-first.result % 2 ≡ 0 = omega (arith, not_odd) in
    answered c.args.accounts.now.config c.args.cell c.first_load-first.result c.second_load-second.result c.args.key
    c.args.seat.now c.first_load-first.new.seat c.look_up-looked.new.seat c.second_load-second.new.seat
    c.look_up-looked.result c.decode.result p st c.first_load-first.ensures.begun c.look_up-looked.ensures.still
    c.second_load-second.ensures.ended c.look_up-looked.ensures.known c.second_load-second.ensures.told even
    c.if-second-first.false c.decode.ensures.decoded has stage
