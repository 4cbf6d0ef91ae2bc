use Rattle.pass_steps.specs.Asking.{asking_of}
use Rattle.pass_sweeps.proofs.prune.prune_rows.Given as given

abbrev pub ghosts-prune_as : given.ghosts-prune_as
ghosts-prune_as a = record { asking = asking_of a.store.now a.pass.now a.clock }
