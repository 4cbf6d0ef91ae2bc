use Rattle.std.proofs.Common.{◌+◌, length, map, drop}
use Rattle.std.specs.Prelude.{Some}
use Rattle.rebalance_service.specs.SharedStore.Passes.{account_of}
use Rattle.threaded_run.proofs.workers.run_passes.Given as given

abbrev pub ghosts-run_at_home : given.ghosts-run_at_home
ghosts-run_at_home g a = record { home = Some a.store.now; spare = map (account_of a.store.now) (drop (length a.scripts + 1) a.passes.now.items) }
