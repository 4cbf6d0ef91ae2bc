use Rattle.std.proofs.Common.{◌≡◌, ◌%◌, arith}
use Rattle.optimistic_read.specs.Runs.{IsRunLoaded}
use Rattle.optimistic_read.proofs.AnswerLemmas.{run_answered}
use Rattle.optimistic_read.proofs.TryLemmas.{valid_now}
use Rattle.optimistic_read.proofs.scan.try_block_run.Goals as goal

pub decode_run-requires : goal.decode_run-requires
decode_run-requires c = record {
  valid = valid_now c.args.cell c.first_load-first.result c.second_load-second.result c.args.seat.now
      c.first_load-first.new.seat c.load_run-loaded.new.seat c.second_load-second.new.seat
      c.first_load-first.ensures.begun c.load_run-loaded.ensures.still c.second_load-second.ensures.ended
      (IsRunLoaded c.load_run-loaded.result c.args.from c.args.until c.args.rows.now c.load_run-loaded.new.rows)
      c.load_run-loaded.ensures.known c.if-second-first.false;
}

pub returns-clause-tried : goal.returns-clause-tried
returns-clause-tried c p st has stage =
    let not_odd = c.if-first-eq1.false in
    let even : c.first_load-first.result % 2 ≡ 0 = omega (arith, not_odd) in
    run_answered c.args.accounts.now.config c.args.cell c.first_load-first.result c.second_load-second.result
    c.args.from c.args.until c.args.seat.now c.first_load-first.new.seat c.load_run-loaded.new.seat
    c.second_load-second.new.seat c.load_run-loaded.result c.args.rows.now c.load_run-loaded.new.rows
    c.decode_run.result p st
    c.first_load-first.ensures.begun c.load_run-loaded.ensures.still c.second_load-second.ensures.ended
    c.load_run-loaded.ensures.known c.second_load-second.ensures.told even c.if-second-first.false
    c.decode_run.ensures.decoded has stage
