use Rattle.pass_steps.specs.Asking.{asking_of}
use Rattle.pass_steps.proofs.states.read.Given as given

abbrev pub ghosts-read_as : given.ghosts-read_as
ghosts-read_as a = record { asking = asking_of a.store.now a.pass.now a.clock }
