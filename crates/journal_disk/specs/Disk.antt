-- What is known of the files of a disk, and what a call does to them.
use Rattle.std.specs.Prelude.{◌≡◌, ◌≢◌, ℕ, Bool, false, List, [], Option, Some, None, IfSome, IsNone, IsTrue}
use Rattle.desk_io.specs.Files.{Told, Rose}

pub record DiskState : Type 0 where
  -- the name of the chosen file, where that is told
  pub chosen : Option (List ℕ)
  -- the bytes that a read of each name gives
  pub holds : Told
  -- whether the disk tells what its files hold: where it does, None is no such file
  pub tells : Bool
  -- how many calls failed, up to the last number
  pub faults : ℕ

-- what is known of a disk that tells no contents
abbrev pub nothing_told : ℕ → DiskState
nothing_told faults = record { chosen = None; holds = λ _. None; tells = false; faults = faults }

abbrev held_under : Told → Option (List ℕ) → Option (List ℕ)
held_under holds None = None
held_under holds (Some name) = holds name

-- the bytes of the chosen file, where they are told
abbrev pub content : DiskState → Option (List ℕ)
content state = held_under state.holds state.chosen

-- the chosen file has these bytes
abbrev pub IsContent : DiskState → List ℕ → Type 0
IsContent state file = content state ≡ Some file

-- no call failed
abbrev pub FaultsStand : DiskState → DiskState → Type 0
FaultsStand old new = new.faults ≡ old.faults

-- a call failed
abbrev pub FaultsRise : DiskState → DiskState → Type 0
FaultsRise old new = Rose old.faults new.faults

-- a call failed, and no more is known to have changed
pub record Fails (old new : DiskState) : Type 0 where
  pub rose : FaultsRise old new
  pub rest : new ≡ record old { faults = new.faults }

-- the file of this name is chosen: the one that was there, else an empty one
pub record Chooses (name : List ℕ) (old new : DiskState) : Type 0 where
  pub chosen : IsTrue old.tells → new.chosen ≡ Some name
  pub found : IfSome (old.holds name) (λ file. new.holds name ≡ Some file)
  pub made : IsTrue old.tells → IsNone (old.holds name) → new.holds name ≡ Some []
  pub others : (other : List ℕ) → other ≢ name → new.holds other ≡ old.holds other
  pub tells : new.tells ≡ old.tells
  pub faults : FaultsStand old new

-- the same file is chosen, and no other is known to have changed
pub record KeepsOthers (old new : DiskState) : Type 0 where
  pub chosen : new.chosen ≡ old.chosen
  pub others : (other : List ℕ) → Some other ≢ old.chosen → new.holds other ≡ old.holds other
  pub tells : new.tells ≡ old.tells
