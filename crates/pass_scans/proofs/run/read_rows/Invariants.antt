use Rattle.pass_sweeps.specs.PassSteps.Asking.{asking_of}
use Rattle.pass_scans.proofs.run.read_rows.Given as given

abbrev pub ghosts-read_as : given.ghosts-read_as
ghosts-read_as a = record { asking = asking_of a.store.now a.pass.now a.clock }
