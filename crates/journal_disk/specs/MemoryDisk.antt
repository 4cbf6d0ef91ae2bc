-- What a disk in memory tells, and which of its calls are to fail.
use Rattle.std.specs.Prelude.{◌≡◌, ◌==◌, ◌+◌, ◌-◌, ◌^◌, ℕ, min, Bool, true, List, [], ◌∷◌, ◌++◌, None, option_map}
use Rattle.std.specs.List.{list_any}
use Rattle.std.specs.String.{string_bytes}
use Rattle.std.specs.declared.vec.Vec.{Vec}
use Rattle.std.specs.declared.alloc.Global.{Global}
use Rattle.desk_io.specs.MemoryDesk.{texts_of}
use Rattle.journal_disk.specs.Disk.{DiskState, content, IsContent, KeepsOthers}
use Rattle.journal_disk.specs.declared.memory_disk.MemoryDisk.{MemoryDisk}
use Rattle.journal_disk.specs.declared.memory_disk.Step.{Step}
use Rattle.journal_disk.specs.declared.memory_disk.Step.TheVariants.{Synced}

-- what is known of a disk in memory: all
abbrev pub state_of : MemoryDisk → DiskState
state_of disk = record {
  chosen = option_map string_bytes disk.chosen;
  holds = texts_of disk.files;
  tells = true;
  faults = disk.faults;
}

-- the numbers of the calls that are to fail
abbrev pub failing_calls : MemoryDisk → List ℕ
failing_calls disk = disk.failing.items

-- the number of the next call, up to the last number
abbrev pub next_call : MemoryDisk → ℕ
next_call disk = min (disk.calls + 1) (2 ^ 64 - 1)

-- whether the next call is to fail
abbrev pub fails_now : MemoryDisk → Bool
fails_now disk = list_any (λ call. call == next_call disk) disk.failing.items

-- a disk with no file, of which no call was made, where these calls are to fail
pub record IsNew (calls : List ℕ) (disk : MemoryDisk) : Type 0 where
  pub nothing : (name : List ℕ) → (state_of disk).holds name ≡ None
  pub faults : (state_of disk).faults ≡ 0
  pub first : next_call disk ≡ 1
  pub failing : failing_calls disk ≡ calls

-- what was done to the images of the chosen file, since the disk was made
abbrev pub steps_of : MemoryDisk → List Step
steps_of disk = disk.steps.items

-- all that is told is as it was
pub record KeepsImages (old new : MemoryDisk) : Type 0 where
  pub state : state_of new ≡ state_of old
  pub steps : steps_of new ≡ steps_of old

-- the file stands in the place of the chosen one, by this step
pub record Replaces (file : List ℕ) (step : Step) (old new : MemoryDisk) : Type 0 where
  pub put : IsContent (state_of new) file
  pub others : KeepsOthers (state_of old) (state_of new)
  pub steps : steps_of new ≡ steps_of old ++ step ∷ []
  pub faults : new.faults ≡ old.faults

-- the chosen file was brought to the disk
pub record Settles (old new : MemoryDisk) : Type 0 where
  pub copy : Vec ℕ Global
  pub read : IsContent (state_of old) copy.items
  pub steps : steps_of new ≡ steps_of old ++ Synced copy ∷ []
