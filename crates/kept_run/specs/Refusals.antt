-- Why a run whose commits are kept came to no end.
use Rattle.std.specs.Prelude.{ℕ, List}
use Rattle.graph_model.specs.declared.write.Kind.{Kind}
use Rattle.graph_model.specs.declared.load.LoadRefusal.{LoadRefusal}
use Rattle.graph_model.specs.declared.load.LoadRefusal.TheVariants as loads
use Rattle.graphalytics_io.specs.declared.edges.Edge.{Edge}
use Rattle.journal_disk.specs.Disk.{DiskState, FaultsStand, FaultsRise}
use Rattle.run_keeper.specs.declared.keeper.KeepRefusal.{KeepRefusal}
use Rattle.run_keeper.specs.declared.keeper.KeepRefusal.TheVariants as keeps
use Rattle.teseo_program.specs.Running.{IsRefusedLoad}
use Rattle.kept_run.specs.declared.refusal.KeptRefusal.{KeptRefusal}
use Rattle.kept_run.specs.declared.refusal.KeptRefusal.TheVariants.{Full, NoMemory, DiskFault}

abbrev pub of_load : LoadRefusal → KeptRefusal
of_load (loads.Full leaves) = Full leaves
of_load loads.NoMemory = NoMemory

abbrev pub of_keep : KeepRefusal → KeptRefusal
of_keep keeps.DiskFault = DiskFault
of_keep keeps.NoMemory = NoMemory

-- the rows of the graph may fill so many leaves, or memory is wanted, and no call of the disk failed; or one did
abbrev pub IsRefusedKept : Kind → ℕ → List ℕ → List Edge → DiskState → DiskState → KeptRefusal → Type 0
IsRefusedKept kind leaves ids edges old new (Full full) =
    IsRefusedLoad kind leaves ids edges (loads.Full full) × FaultsStand old new
IsRefusedKept kind leaves ids edges old new NoMemory = FaultsStand old new
IsRefusedKept kind leaves ids edges old new DiskFault = FaultsRise old new
