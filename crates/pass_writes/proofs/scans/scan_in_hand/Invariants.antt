use Rattle.pass_prunes.specs.PassSteps.Asking.{asking_of}
use Rattle.pass_writes.proofs.scans.scan_in_hand.Given as given

abbrev pub ghosts-scan_as : given.ghosts-scan_as
ghosts-scan_as a = record { asking = asking_of a.store.now a.pass.now a.clock }
