-- Slots of a block of memory, of which the vacant ones are in a list. Only the crate itself speaks of it.
use Rattle.std.specs.Prelude.{◌≡◌, ℕ, zero, suc, ◌+◌, ◌≤◌, List, map, length, Option, Some, is_some, count_by, slice_get}
use Rattle.undo_chain.specs.declared.undo.Undo.{Undo}
use Rattle.undo_chain.specs.declared.link.TheConstants.{MOST_RECORDS}
use Rattle.undo_chain.specs.declared.packed.UndoSlot.{UndoSlot}
use Rattle.undo_chain.specs.declared.packed.UndoSlot.TheVariants.{Vacant}
use Rattle.undo_chain.specs.Packed.{record_in}

-- the records at all keys
abbrev pub records_in : List UndoSlot → List (Option Undo)
records_in slots = map record_in slots

-- from this key on, so many vacant slots each name the next one, and the last one names the end of all
abbrev pub IsVacantList : List UndoSlot → ℕ → ℕ → Type 0
IsVacantList slots zero key = key ≡ length slots
IsVacantList slots (suc count) key =
    (next : ℕ) × (slice_get slots key ≡ Some (Vacant next)) × IsVacantList slots count next

-- so many records there are, the list from `next` on has every vacant slot, and each key can be named
pub record AreSlots (slots : List UndoSlot) (len next : ℕ) : Type 0 where
  pub counted : len ≡ count_by is_some (records_in slots)
  pub vacant : ℕ
  pub total : len + vacant ≡ length slots
  pub linked : IsVacantList slots vacant next
  pub few : length slots ≤ MOST_RECORDS
