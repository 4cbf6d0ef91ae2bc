-- What the parts of a packed record stand for.
use Rattle.std.specs.Prelude.{ℕ, zero, suc, ◌+◌, ◌*◌, ◌≤◌, Bool, true, false, cond, Option, Some, None}
use Rattle.std.specs.Option.{unwrap_or}
use Rattle.graph_model.specs.declared.journal.TxnName.{TxnName}
use Rattle.undo_chain.specs.declared.undo.Undo.{Undo}
use Rattle.undo_chain.specs.declared.link.TheConstants.{MOST_RECORDS}
use Rattle.undo_chain.specs.declared.packed.SlotContent.{SlotContent}
use Rattle.undo_chain.specs.declared.packed.SlotContent.TheVariants.{Nothing, Unstamped, Stamped, AllStamped}
use Rattle.undo_chain.specs.declared.packed.UndoSlot.{UndoSlot}
use Rattle.undo_chain.specs.declared.packed.UndoSlot.TheVariants.{Vacant, Occupied}

-- a number, if it is there
abbrev pub part : Bool → ℕ → Option ℕ
part is_there number = cond is_there (Some number) None

-- the key below a number; there is none below zero
abbrev pub key_below : ℕ → Option ℕ
key_below zero = None
key_below (suc key) = Some key

-- the key that three parts of 16 bits stand for
abbrev pub key_in : ℕ → ℕ → ℕ → Option ℕ
key_in low middle high = key_below (low + 65536 * (middle + 65536 * high))

-- 48 bits can name the key
abbrev pub IsNameable : Option ℕ → Type 0
IsNameable None = Unit {0}
IsNameable (Some key) = key ≤ MOST_RECORDS

-- what a slot holds: the place of the next vacant one, or a record, which has a stamp or none
abbrev pub slot_of : SlotContent → TxnName → ℕ → Option ℕ → Option ℕ → UndoSlot
slot_of Nothing by stamp older link = Vacant (unwrap_or link 0)
slot_of Unstamped by stamp older link =
    Occupied (record { by = by; stamp = None; older = older; next = link; all_stamped = false })
slot_of Stamped by stamp older link =
    Occupied (record { by = by; stamp = Some stamp; older = older; next = link; all_stamped = false })
slot_of AllStamped by stamp older link =
    Occupied (record { by = by; stamp = Some stamp; older = older; next = link; all_stamped = true })

-- the record in a slot
abbrev pub record_in : UndoSlot → Option Undo
record_in (Vacant next) = None
record_in (Occupied undo) = Some undo
