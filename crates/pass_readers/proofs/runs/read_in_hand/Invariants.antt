use Rattle.pass_readers.specs.Looks.{asked_by}
use Rattle.pass_readers.proofs.runs.read_in_hand.Given as given

abbrev pub ghosts-read_as : given.ghosts-read_as
ghosts-read_as a = record { asking = asked_by a.store.now a.reader.now a.clock }
