-- What is known of the files and the output that a desk reaches, and what a call does to them
use Rattle.std.specs.Prelude.{◌≡◌, ◌≢◌, ◌⊎◌, ◌+◌, ◌-◌, ◌^◌, ◌<◌, ◌≤◌, ℕ, Bool, false, List, ◌++◌, length, take, drop, Option, Some, None, IfSome, IsSome, IsTrue}

-- the bytes that are known of each name, or None: not told, or no such file
abbrev pub Told : Type 0
Told = List ℕ → Option (List ℕ)

-- what is known of a desk
pub record Files : Type 0 where
  -- the bytes that a read of the name gives
  pub holds : Told
  -- the bytes that were written under the name
  pub written : Told
  -- the bytes that were said
  pub said : Option (List ℕ)
  -- whether the desk tells what it holds and what was written: where it does, None is no such file
  pub tells : Bool
  -- how many reads failed
  pub read_faults : ℕ
  -- the name of the last read that failed, or None: not told, or none failed
  pub failed_read : Option (List ℕ)
  -- how many creates and writes failed
  pub write_faults : ℕ
  -- the name of the last create or write that failed, or None: not told, or none failed
  pub failed_write : Option (List ℕ)

-- what is known of a desk that tells no contents: what failed
abbrev pub nothing_told : ℕ → Option (List ℕ) → ℕ → Option (List ℕ) → Files
nothing_told read_faults failed_read write_faults failed_write = record {
  holds = λ _. None;
  written = λ _. None;
  said = None;
  tells = false;
  read_faults = read_faults;
  failed_read = failed_read;
  write_faults = write_faults;
  failed_write = failed_write;
}

-- a desk that tells holds a file of this name
abbrev pub IsThere : Files → List ℕ → Type 0
IsThere files name = IsTrue files.tells → IsSome (files.holds name)

-- the count grew, or it stands at its last value
abbrev pub Rose : ℕ → ℕ → Type 0
Rose before now = (before < now) ⊎ ((before ≡ 2 ^ 64 - 1) × (now ≡ 2 ^ 64 - 1))

-- a failure is of this name, where the desk tells of which
abbrev pub IsOfName : Option (List ℕ) → List ℕ → Type 0
IsOfName failed name = IfSome failed (λ told. told ≡ name)

-- a read of this name failed: the count rose, and no more changed
pub record ReadFails (name : List ℕ) (old new : Files) : Type 0 where
  pub rose : Rose old.read_faults new.read_faults
  pub named : IsOfName new.failed_read name
  pub rest : new ≡ record old { read_faults = new.read_faults; failed_read = new.failed_read }

-- a create or a write of this name failed: their count rose, and no more changed
pub record WriteFails (name : List ℕ) (old new : Files) : Type 0 where
  pub rose : Rose old.write_faults new.write_faults
  pub named : IsOfName new.failed_write name
  pub rest : new ≡ record old { write_faults = new.write_faults; failed_write = new.failed_write }

-- no create and no write failed
pub record NoWriteFails (old new : Files) : Type 0 where
  pub write_faults : new.write_faults ≡ old.write_faults
  pub failed_write : new.failed_write ≡ old.failed_write

-- what is known of the other names, what was said and the reads that failed stay as they were
pub record ChangesOnly (name : List ℕ) (old new : Files) : Type 0 where
  pub holds : (other : List ℕ) → other ≢ name → new.holds other ≡ old.holds other
  pub written : (other : List ℕ) → other ≢ name → new.written other ≡ old.written other
  pub said : new.said ≡ old.said
  pub tells : new.tells ≡ old.tells
  pub read_faults : new.read_faults ≡ old.read_faults
  pub failed_read : new.failed_read ≡ old.failed_read

-- the first bytes of the buffer are those of the source from a place on, and 0 bytes for a buffer
-- with room are its end
pub record Gives (source : List ℕ) (at : ℕ) (buffer : List ℕ) (count : ℕ) : Type 0 where
  pub bytes : take count buffer ≡ take count (drop at source)
  pub within : 0 < count → at + count ≤ length source
  pub end : count ≡ 0 → 0 < length buffer → length source ≤ at

-- the text with a piece after it, where the text is told
abbrev pub with_piece : Option (List ℕ) → List ℕ → Option (List ℕ)
with_piece None piece = None
with_piece (Some text) piece = Some (text ++ piece)

-- what was written under the name is this text, where it is told, and a desk that tells tells it
pub record IsWritten (files : Files) (name text : List ℕ) : Type 0 where
  pub whole : IfSome (files.written name) (λ told. told ≡ text)
  pub told : IsTrue files.tells → IsSome (files.written name)

-- a sink failed: the count of failed writes rose, and no file was created, or a front of the text
-- was written
pub record SinkFails (name text : List ℕ) (old new : Files) : Type 0 where
  pub rose : Rose old.write_faults new.write_faults
  pub named : IsOfName new.failed_write name
  pub front : (new ≡ record old { write_faults = new.write_faults; failed_write = new.failed_write })
      ⊎ ((count : ℕ) × IsWritten new name (take count text))

-- the bytes are the whole source of this name, where it is told, and a desk that tells has one
pub record IsSource (files : Files) (name bytes : List ℕ) : Type 0 where
  pub whole : IfSome (files.holds name) (λ source. bytes ≡ source)
  pub there : IsThere files name

-- the source of this name has more bytes than the limit, where it is told, and a desk that tells
-- has one
pub record IsTooLong (files : Files) (name : List ℕ) (limit : ℕ) : Type 0 where
  pub longer : IfSome (files.holds name) (λ source. limit < length source)
  pub there : IsThere files name

-- the bytes are the first of the source of this name, where it is told
pub record IsFront (files : Files) (name bytes : List ℕ) : Type 0 where
  pub front : IfSome (files.holds name) (λ source. bytes ≡ take (length bytes) source)
