use Rattle.std.proofs.Common.{arith, sym, ◌∙◌, ap}
use Rattle.std.specs.Prelude.{◌||◌}
use Rattle.thread_runner.proofs.ListLemmas.{some_of_first, seat_there, one_there, all_run, or_true, or_false}
use Rattle.thread_runner.proofs.driver.run_block.Goals as goal
use Rattle.thread_runner.proofs.driver.run_block.Goals.{then-run_seat, else-run_seat}

pub run_seat-requires-clause-ready : goal.run_seat-requires-clause-ready
run_seat-requires-clause-ready g c κs within = seat_there g.E.Engine.account c.seats.seat-index c.args.seats.now c.seats.seats c.seats.invariant.run c.requires.ready c.seat-item.result c.seat-item.is (omega arith)

pub seats-preserved : goal.seats-preserved
seats-preserved g c =
    let i = c.seats.seat-index in
    let one = one_there g.E.Engine.account i c.args.seats.now c.seats.seats c.seats.invariant.run c.seat-item.result c.run_seat.new.seat c.seat-item.is (omega arith) c.run_seat.ensures.ran in
    record {
      run = one.0;
      wanted = elim c.if-run_seat.branch [
        | then-run_seat w ↦ w.wanted-is ∙ sym (one.1 ∙ ap (λ b. some_of_first i c.args.seats.now c.seats.seats || b) (sym c.run_seat.ensures.wanted ∙ w.if-run_seat.true) ∙ or_true _)
        | else-run_seat w ↦ w.wanted-is ∙ c.seats.invariant.wanted ∙ sym (one.1 ∙ ap (λ b. some_of_first i c.args.seats.now c.seats.seats || b) (sym c.run_seat.ensures.wanted ∙ w.if-run_seat.false) ∙ or_false _)
      ];
    }

pub returns-clause-ran : goal.returns-clause-ran
returns-clause-ran g c = (all_run g.E.Engine.account c.seats.seat-index c.args.seats.now c.seats.seats c.seats.invariant.run (omega arith)).0

pub returns-clause-wanted : goal.returns-clause-wanted
returns-clause-wanted g c = c.seats.invariant.wanted ∙ (all_run g.E.Engine.account c.seats.seat-index c.args.seats.now c.seats.seats c.seats.invariant.run (omega arith)).1
