use Rattle.pass_prunes.specs.PassSteps.Asking.{asking_of}
use Rattle.pass_writes.proofs.reads.value_in_hand.Given as given

abbrev pub ghosts-value_as : given.ghosts-value_as
ghosts-value_as a = record { asking = asking_of a.store.now a.pass.now a.clock }
