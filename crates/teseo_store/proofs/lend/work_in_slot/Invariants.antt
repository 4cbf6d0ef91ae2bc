use Rattle.std.specs.Prelude.{Some, []}
use Rattle.teseo_store.proofs.lend.work_in_slot.Given as given

abbrev pub ghosts-lend-H-Home : given.ghosts-lend-H-Home
ghosts-lend-H-Home g a = record { home = Some a.store.now; spare = [] }

abbrev pub ghosts-lend-P-SessionPlace : given.ghosts-lend-P-SessionPlace
ghosts-lend-P-SessionPlace g a = record { number = a.pass.seats.number }
