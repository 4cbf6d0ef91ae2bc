-- Why commits weren't kept.
use Rattle.journal_disk.specs.Disk.{DiskState, FaultsStand, FaultsRise}
use Rattle.run_keeper.specs.declared.keeper.KeepRefusal.{KeepRefusal}
use Rattle.run_keeper.specs.declared.keeper.KeepRefusal.TheVariants.{DiskFault, NoMemory}

-- a call of the disk failed, or none did and memory is wanted
abbrev pub Stops : DiskState → DiskState → KeepRefusal → Type 0
Stops old new DiskFault = FaultsRise old new
Stops old new NoMemory = FaultsStand old new
