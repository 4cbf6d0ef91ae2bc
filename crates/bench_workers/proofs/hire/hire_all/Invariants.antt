use Rattle.std.proofs.Common.{◌≡◌, ◌+◌, ◌≤◌, ◌++◌, length, map}
use Rattle.std.specs.List.{AllByRecursion}
use Rattle.std.specs.Vec.{vec_capacity}
use Rattle.cases_workers.specs.SharedStore.Passes.{IsIdle}
use Rattle.bench_workers.proofs.hire.hire_all.Given as goal

-- the passes of those that were hired come before those that are left
abbrev pub invariant-passes : goal.invariant-passes
invariant-passes g l = record {
  workers : map (λ w. w.pass) l.workers.items ++ l.passes.items ≡ l.fn.passes.items;
  stores : AllByRecursion (λ w. w.store.now ≡ l.store) l.workers.items;
  idle : AllByRecursion (IsIdle l.store) l.passes.items;
  room : length l.workers.items + length l.passes.items ≤ vec_capacity l.workers;
  capacity : vec_capacity l.passes ≡ vec_capacity l.fn.passes;
}

abbrev pub decreases-passes : goal.decreases-passes
decreases-passes g l = length l.passes.items
