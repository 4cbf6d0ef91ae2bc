use Rattle.std.specs.Prelude.{Some, []}
use Rattle.cases_workers.proofs.three.run_together.Given as given

abbrev pub ghosts-run_three : given.ghosts-run_three
ghosts-run_three g a = record { home = Some a.store.now; spare = [] }
