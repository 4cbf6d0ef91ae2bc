use Rattle.std.proofs.Common.{◌≡◌, ◌+◌, ◌≤◌, ◌++◌, length, List, map}
use Rattle.std.specs.List.{AllByRecursion}
use Rattle.std.specs.Vec.{vec_capacity}
use Rattle.thread_runner.specs.JobRunner.Progress.{Progress}
use Rattle.rebalance_service.specs.SharedStoreDeclared.pass.Pass.{Pass}
use Rattle.rebalance_service.specs.SharedStore.Passes.{IsIdle, account_of}
use Rattle.threaded_run.specs.Seats.{AreSeated}
use Rattle.threaded_run.proofs.seats.seat_all.Given as goal

-- whatever seats the scripts that are left get, they come behind those that are there
abbrev pub invariant-scripts : goal.invariant-scripts
invariant-scripts g l = record {
  loader : IsIdle l.store l.loader;
  account : account_of l.store l.loader ≡ account_of l.store l.fn.loader;
  idle : AllByRecursion (IsIdle l.store) l.passes.items;
  count : length l.passes.items ≡ length l.scripts.items;
  number : l.number + length l.scripts.items ≡ 1 + length l.fn.scripts.items;
  room : length l.seats.items + length l.scripts.items ≤ vec_capacity l.seats;
  seated : (more : List (Progress × Pass)) → AreSeated l.store (account_of l.store l.fn.loader).seen l.number l.scripts.items l.passes.items more
      → AreSeated l.store (account_of l.store l.fn.loader).seen 1 l.fn.scripts.items l.fn.passes.items (map (λ x. (x.0, x.1.pass)) l.seats.items ++ more);
  store : AllByRecursion (λ x. x.1.store.now ≡ l.store) l.seats.items;
  capacity : vec_capacity l.passes ≡ vec_capacity l.fn.passes;
}

abbrev pub decreases-scripts : goal.decreases-scripts
decreases-scripts g l = length l.scripts.items
