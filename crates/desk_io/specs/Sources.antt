-- Sources that are read one after another, and why the reading stops
use Rattle.std.specs.Prelude.{◌≡◌, ◌≤◌, ℕ, List, length, take, slice_get, Some}
use Rattle.std.specs.List.{AllZip}
use Rattle.desk_io.specs.Files.{Files, ReadFails, IsSource, IsTooLong}
use Rattle.desk_io.specs.declared.source.SourceRefusal.{SourceRefusal}
use Rattle.desk_io.specs.declared.source.SourceRefusal.TheVariants as refusals
use Rattle.desk_io.specs.declared.sources.ReadStop.{ReadStop}
use Rattle.desk_io.specs.declared.sources.ReadStop.TheVariants.{Fault, TooLong, NoMemory}

-- the bytes are the whole source of this name, and not too long
pub record IsRead (limit : ℕ) (files : Files) (name bytes : List ℕ) : Type 0 where
  pub source : IsSource files name bytes
  pub short : length bytes ≤ limit

-- each name has its source, read whole
abbrev pub AreRead : ℕ → Files → List (List ℕ) → List (List ℕ) → Type 0
AreRead limit files names sources = AllZip (IsRead limit files) names sources

-- this is the name at the place, and the sources before it were read whole
pub record StopsAt (limit : ℕ) (files : Files) (names : List (List ℕ)) (place : ℕ) (name : List ℕ) : Type 0 where
  pub name_there : slice_get names place ≡ Some name
  pub before : List (List ℕ)
  pub read : AreRead limit files (take place names) before

-- what each stop means: a read of the name at the place failed, or its source is too long, and
-- nothing else changed
abbrev pub IsReadStop : ℕ → List (List ℕ) → Files → Files → ReadStop → Type 0
IsReadStop limit names old new (Fault place) =
    (name : List ℕ) × StopsAt limit old names place name × ReadFails name old new
IsReadStop limit names old new (TooLong place) =
    (name : List ℕ) × StopsAt limit old names place name × IsTooLong old name limit × (new ≡ old)
IsReadStop limit names old new NoMemory = new ≡ old

-- the stop at a place whose source is refused
abbrev pub stop_at : ℕ → SourceRefusal → ReadStop
stop_at place refusals.ReadFault = Fault place
stop_at place refusals.TooLong = TooLong place
stop_at place refusals.NoMemory = NoMemory
