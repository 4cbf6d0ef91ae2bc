use Rattle.std.proofs.Common.{◌≡◌, ◌≤◌, ◌<◌, ℕ, length, Some}
use Rattle.std.specs.Prelude.{slice_get, slice_index_or, true, false}
use Rattle.std.specs.Vec.{vec_capacity}
use mathlib.Core.Option.{some}
use lib.ListN.{get_elem?}
use Rattle.std.specs.Mem.Slots.{slots_items, slots_filled, slots_len}
use Rattle.latch_table.proofs.table.LatchTable.close.Given as goal

abbrev pub invariant-slots : goal.invariant-slots
invariant-slots g l =
    (slots_len l.closed.slots ≡ slots_len l.initial.closed.slots)
    × (slots_items l.closed.slots ≡ slots_items l.initial.closed.slots)
    × ((k : ℕ) → k < l.place → slice_index_or (slots_filled l.closed.slots) k false ≡ false)
    × ((k : ℕ) → l.place ≤ k → k < slots_len l.initial.closed.slots
    → slice_index_or (slots_filled l.closed.slots) k false ≡ true)
    × (length l.values.items ≡ l.place)
    × (slots_len l.initial.closed.slots ≤ vec_capacity l.values)
    × ((k : ℕ) (value : _) → slice_get l.values.items k ≡ Some value
    → get_elem? (slots_items l.initial.closed.slots) k ≡ some value)
