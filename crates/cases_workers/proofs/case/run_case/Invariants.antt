use Rattle.std.specs.Prelude.{Some, []}
use Rattle.cases_workers.proofs.case.run_case.Given as given

abbrev pub ghosts-run_by_last : given.ghosts-run_by_last
ghosts-run_by_last g a = record { home = Some a.store.now; spare = [] }
