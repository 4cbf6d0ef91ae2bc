-- Texts that are written under their names one after another, and what that leaves
use Rattle.std.specs.Prelude.{◌≡◌, ◌⊎◌, ℕ, List, [], ◌∷◌, ◌++◌, map, take, Contains, slice_get, Some}
use Rattle.std.specs.List.{AllByRecursion}
use Rattle.desk_io.specs.Files.{Files, Rose, IsOfName, IsWritten}

-- a text and the name that it is written under
pub record NamedText : Type 0 where
  pub name : List ℕ
  pub text : List ℕ

abbrev pub names_of : List NamedText → List (List ℕ)
names_of outputs = map (λ o. o.name) outputs

-- each name has its text whole
abbrev pub AreWritten : Files → List NamedText → Type 0
AreWritten files outputs = AllByRecursion (λ o. IsWritten files o.name o.text) outputs

-- what is known of all names but these, what was said and the reads that failed stay as they were
pub record KeepsOthers (names : List (List ℕ)) (old new : Files) : Type 0 where
  pub holds : (other : List ℕ) → (Contains names other → ⊥) → new.holds other ≡ old.holds other
  pub written : (other : List ℕ) → (Contains names other → ⊥) → new.written other ≡ old.written other
  pub said : new.said ≡ old.said
  pub tells : new.tells ≡ old.tells
  pub read_faults : new.read_faults ≡ old.read_faults
  pub failed_read : new.failed_read ≡ old.failed_read

-- all outputs are whole, no other name changed, and no write failed
pub record WritesAll (outputs : List NamedText) (old new : Files) : Type 0 where
  pub whole : AreWritten new outputs
  pub others : KeepsOthers (names_of outputs) old new
  pub write_faults : new.write_faults ≡ old.write_faults
  pub failed_write : new.failed_write ≡ old.failed_write

-- what is known of the name stays
pub record IsNotCreated (name : List ℕ) (old new : Files) : Type 0 where
  pub holds : new.holds name ≡ old.holds name
  pub written : new.written name ≡ old.written name

-- the output that failed isn't created, or has a front of its text
abbrev pub HasFront : NamedText → Files → Files → Type 0
HasFront o old new = IsNotCreated o.name old new ⊎ ((count : ℕ) × IsWritten new o.name (take count o.text))

-- the outputs before the failed one are whole, the failed one isn't created or has a front of its
-- text, and the later ones and all other names are as they were
pub record FailsAt (before : List NamedText) (failed : NamedText) (old new : Files) : Type 0 where
  pub rose : Rose old.write_faults new.write_faults
  pub named : IsOfName new.failed_write failed.name
  pub whole : AreWritten new before
  pub front : HasFront failed old new
  pub others : KeepsOthers (names_of (before ++ failed ∷ [])) old new

-- the output at this place failed
abbrev pub FailsAtPlace : List NamedText → ℕ → Files → Files → Type 0
FailsAtPlace outputs place old new =
    (failed : NamedText) × (slice_get outputs place ≡ Some failed) × FailsAt (take place outputs) failed old new
