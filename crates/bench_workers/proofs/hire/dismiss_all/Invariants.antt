use Rattle.std.proofs.Common.{◌≡◌, ◌+◌, ◌≤◌, ◌++◌, length, map}
use Rattle.std.specs.List.{AllByRecursion}
use Rattle.std.specs.Vec.{vec_capacity}
use Rattle.cases_workers.specs.RebalanceService.Ready.{IsReady}
use Rattle.bench_workers.proofs.hire.dismiss_all.Given as goal

-- those that are left come behind those that were taken
abbrev pub invariant-workers : goal.invariant-workers
invariant-workers g l = record {
  passes : l.passes.items ++ map (λ w. w.pass) l.workers.items
      ≡ l.fn.passes.items ++ map (λ w. w.pass) l.fn.workers.items;
  ready : AllByRecursion (λ w. IsReady l.store w.pass × (w.store.now ≡ l.store)) l.workers.items
      → AllByRecursion (λ w. IsReady l.store w.pass × (w.store.now ≡ l.store)) l.fn.workers.items;
  room : length l.passes.items + length l.workers.items ≤ vec_capacity l.passes;
  capacity : vec_capacity l.fn.passes ≤ vec_capacity l.passes;
}

abbrev pub decreases-workers : goal.decreases-workers
decreases-workers g l = length l.workers.items
