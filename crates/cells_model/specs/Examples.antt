-- Worked examples, with values reckoned by hand: words of values and versions, a torn read, a
-- leaf that is freed too soon.
use Rattle.std.specs.Prelude.{◌≡◌, ℕ, ◌==◌, Bool, true, false, [], ◌∷◌, Option, Some, None}
use Rattle.graph_model.specs.declared.row.Key.{Key}
use Rattle.store_model.specs.Stamped.{StampedVersions}
use Rattle.leaf_store.specs.VersionSegment.Rows.{VersionedRows}
use Rattle.leaf_index.specs.Calls.{kept_of}
use Rattle.leaf_index.specs.Index.{Index}
use Rattle.epoch_reclaim.specs.declared.sweep.Sweep.{Sweep}
use Rattle.epoch_reclaim.specs.Pinned.{announced_word, begun, looked_at, pinned_word}
use Rattle.leaf_store.specs.VersionSegment.Resting.{is_marked, no_value, value_in_word, value_word}
use Rattle.cells_model.specs.Cells.{CellState, last_word, lowered_word, raised_word, version_word}
use Rattle.cells_model.specs.Reads.{Reading, IsReading, IsValidated, first_loaded, second_loaded}
use Rattle.cells_model.specs.Noted.{AreNoted}

-- ---- words

-- a row whose only value is 7; one whose writer left 5 above it; and one whose writer removed it
abbrev pub settled_row : StampedVersions
settled_row = record { pairs = []; oldest = Some 7; touches = [] }

abbrev pub pair_row : Option ℕ → StampedVersions
pair_row value =
    record {
      pairs = record {
        by = record { job = 1; number = 1 };
        stamp = None;
        value = value;
      } ∷ [];
      oldest = Some 7;
      touches = [];
    }

pub record WordExamples : Type 0 where
  pub settled : value_word settled_row ≡ 7
  pub chained : value_word (pair_row (Some 5)) ≡ 9223372036854775813
  pub removed : value_word (pair_row None) ≡ no_value
  -- and back
  pub settled_value : value_in_word 7 ≡ Some 7
  pub chained_value : value_in_word 9223372036854775813 ≡ Some 5
  pub removed_value : value_in_word no_value ≡ None
  pub settled_mark : is_marked 7 ≡ false
  pub chained_mark : is_marked 9223372036854775813 ≡ true
  pub removed_mark : is_marked no_value ≡ true
  -- version words while a cell is unpacked, where it was changed, and where it was not
  pub raised : raised_word 4 ≡ 5
  pub changed : lowered_word true 5 ≡ 6
  pub unchanged : lowered_word false 5 ≡ 4
  -- the last one stays, so that no word is ever used again
  pub last : lowered_word true (raised_word 18446744073709551614) ≡ last_word
  pub stays : raised_word last_word ≡ last_word

-- ---- a torn read

abbrev pub at : ℕ → Key
at src = record { src = src; second = 0 }

abbrev pub one_row : Key → Key → Key → VersionedRows
one_row low high key = record {
  low = low;
  high = high;
  rows = (key, settled_row) ∷ [];
  spare = 0;
}

-- A cell had the keys from 0 to 10 and a row at 5, at version 2. Rows have moved: it has those
-- from 10 to 20 and a row at 15, at version 4.
abbrev pub moved_cell : CellState
moved_cell = record {
  segment = one_row (at 10) (at 20) (at 15);
  block = 4 ∷ 1 ∷ 10 ∷ 0 ∷ 20 ∷ 0 ∷ 15 ∷ 0 ∷ 7 ∷ [];
  unpacked = false;
  changed = false;
}

-- a read that loaded the row's key before, and the number of rows and the fence keys since
abbrev pub torn_read : Reading
torn_read = record {
  cell = 0;
  first = 2;
  loaded = (5, 0) ∷ (4, 20) ∷ (3, 0) ∷ (2, 10) ∷ (1, 1) ∷ (7, 0) ∷ (6, 5) ∷ [];
  valid = false;
}

pub record ReadExamples : Type 0 where
  -- what it loaded is of no block that was ever there
  pub torn : IsValidated (λ s. Unit {0}) torn_read → ⊥
  -- no rule keeps a reader from it
  pub under_way : IsReading 1 (λ k. moved_cell) torn_read
  -- but the version word isn't found again
  pub refused : (second_loaded torn_read (version_word moved_cell)).valid ≡ false
  -- and no read begins while the cell is unpacked
  pub odd : first_loaded 0 3 ≡ None
  pub even : first_loaded 0 2 ≡ Some (record { cell = 0; first = 2; loaded = []; valid = false })

-- ---- a leaf that a pinned pass has noted

-- leaf 0 is live, and leaf 3 was retired with stamp 5
abbrev pub retired_index : Index
retired_index = record {
  leaves = 4;
  entries = record { low = at 0; leaf = 0; cuts = [] } ∷ [];
  free = [];
  retired = record { leaf = 3; stamp = 5 } ∷ [];
}

-- pass 0 began at 4 and has noted leaf 3
abbrev pub first_active : ℕ → Bool
first_active p = p == 0

-- a sweep at clock 9 that has looked at one pin
abbrev pub found_sweep : Sweep
found_sweep = looked_at (begun 9) (pinned_word 4)

pub record NoteExamples : Type 0 where
  pub noted : AreNoted retired_index first_active (λ p. 4) (λ p. 3 ∷ []) (λ p. None) None
  -- the leaf may not go
  pub freed : AreNoted (record retired_index { retired = [] }) first_active (λ p. 4) (λ p. 3 ∷ [])
      (λ p. None) None → ⊥
  -- and a sweep that has found the pass's pin frees what lies below its start, not what the clock
  -- allows
  pub found : found_sweep.least ≡ Some 4
  pub kept : kept_of 4 retired_index.retired ≡ retired_index.retired
  pub clock : kept_of 9 retired_index.retired ≡ []
  -- a pass that is announced may begin at any stamp, so nothing goes
  pub announced : (looked_at (begun 9) announced_word).least ≡ Some 0
