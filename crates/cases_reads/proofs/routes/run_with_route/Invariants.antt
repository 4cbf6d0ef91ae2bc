use Rattle.std.specs.Prelude.{Some, []}
use Rattle.cases_reads.proofs.routes.run_with_route.Given as given

abbrev pub ghosts-run_two : given.ghosts-run_two
ghosts-run_two g a = record { home = Some a.store.now; spare = [] }
