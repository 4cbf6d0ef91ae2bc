-- What a source that was refused says of the desk, and what one piece of it leaves
use Rattle.std.specs.Prelude.{◌≡◌, ◌<◌, ◌≤◌, ℕ, List, length}
use Rattle.desk_io.specs.Files.{Files, ReadFails, IsSource, IsTooLong, IsFront}
use Rattle.desk_io.specs.declared.source.SourceRefusal.{SourceRefusal}
use Rattle.desk_io.specs.declared.source.SourceRefusal.TheVariants.{ReadFault, TooLong, NoMemory}
use Rattle.desk_io.specs.declared.source.Piece.{Piece}
use Rattle.desk_io.specs.declared.source.Piece.TheVariants.{Taken, End}

-- what each refusal means
abbrev pub IsRefused : List ℕ → ℕ → Files → Files → SourceRefusal → Type 0
IsRefused name limit old new ReadFault = ReadFails name old new
IsRefused name limit old new TooLong = IsTooLong old name limit × (new ≡ old)
IsRefused name limit old new NoMemory = new ≡ old

-- one turn took at least one more byte of the source, or found its end
abbrev pub Reads : List ℕ → ℕ → Files → List ℕ → List ℕ → Piece → Type 0
Reads name limit files old new Taken =
    (length old < length new) × (length new ≤ limit) × IsFront files name new
Reads name limit files old new End = (new ≡ old) × IsSource files name new
