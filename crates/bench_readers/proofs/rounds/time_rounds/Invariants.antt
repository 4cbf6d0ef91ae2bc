use Rattle.std.proofs.Common.{◌≡◌, length}
use Rattle.std.specs.Vec.{vec_capacity}
use Rattle.reader_parts.specs.SharedStore.Passes.{IsOpen}
use Rattle.bench_readers.specs.Rounds.{StayIdle}
use Rattle.bench_readers.proofs.rounds.time_rounds.Given as goal

abbrev pub invariant-rounds : goal.invariant-rounds
invariant-rounds g l = record {
  opened : IsOpen l.store l.pass;
  number : l.pass.seats.number ≡ l.fn.pass.seats.number;
  idle : StayIdle l.store l.fn.idle.items l.idle.items;
  count : length l.idle.items ≡ length l.fn.idle.items;
  room : vec_capacity l.idle ≡ vec_capacity l.fn.idle;
}
