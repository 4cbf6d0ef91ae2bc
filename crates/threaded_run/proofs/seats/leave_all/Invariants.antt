use Rattle.std.proofs.Common.{◌≡◌, ◌+◌, ◌≤◌, ◌++◌, length, map}
use Rattle.std.specs.List.{AllByRecursion}
use Rattle.std.specs.Vec.{vec_capacity}
use Rattle.rebalance_service.specs.WorkerCalls.Ready.{IsReady}
use Rattle.threaded_run.proofs.seats.leave_all.Given as goal

-- those that are left come behind those that were taken
abbrev pub invariant-seats : goal.invariant-seats
invariant-seats g l = record {
  passes : l.passes.items ++ map (λ x. x.1.pass) l.seats.items ≡ l.fn.passes.items ++ map (λ x. x.1.pass) l.fn.seats.items;
  jobs : l.jobs.items ++ map (λ x. x.0) l.seats.items ≡ l.fn.jobs.items ++ map (λ x. x.0) l.fn.seats.items;
  ready : AllByRecursion (λ x. IsReady l.store x.1.pass × (x.1.store.now ≡ l.store)) l.seats.items
      → AllByRecursion (λ x. IsReady l.store x.1.pass × (x.1.store.now ≡ l.store)) l.fn.seats.items;
  room_passes : length l.passes.items + length l.seats.items ≤ vec_capacity l.passes;
  capacity : vec_capacity l.passes ≡ vec_capacity l.fn.passes;
  room_jobs : length l.jobs.items + length l.seats.items ≤ vec_capacity l.jobs;
}

abbrev pub decreases-seats : goal.decreases-seats
decreases-seats g l = length l.seats.items
