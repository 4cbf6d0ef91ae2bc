use Rattle.std.proofs.Common.{◌≡◌}
use Rattle.thread_runner.proofs.ListLemmas.{HaveRun, some_of_first}
use Rattle.thread_runner.proofs.driver.run_block.Given as goal

abbrev pub invariant-seats : goal.invariant-seats
invariant-seats g l = record {
  run : HaveRun g.E.Engine.account l.seat-index l.initial.seats l.seats;
  wanted : l.wanted ≡ some_of_first l.seat-index l.initial.seats l.seats;
}
