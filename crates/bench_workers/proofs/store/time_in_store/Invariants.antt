use Rattle.std.specs.Prelude.{Some, []}
use Rattle.bench_workers.proofs.store.time_in_store.Given as given

abbrev pub ghosts-time_on_passes : given.ghosts-time_on_passes
ghosts-time_on_passes g a = record { home = Some a.store.now; spare = [] }
