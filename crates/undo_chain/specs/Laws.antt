-- What the calls do to lists of records is what the definitions do to versions.
use Rattle.std.specs.Prelude.{◌≡◌, ℕ, List, ◌∷◌, map, Option}
use Rattle.graph_model.specs.declared.journal.TxnName.{TxnName}
use Rattle.store_model.specs.Versions.{write, undo}
use Rattle.store_model.specs.Stamped.{forget_row, prune_stamped, stamp}
use Rattle.undo_chain.specs.Records.{UndoRecord, new_record, versions_of, unsettled_front, stamped_by}

-- a new record with the old value, under a row's new value, is a write
abbrev pub PushIsWrite : Type 0
PushIsWrite = (by : TxnName) (value base : Option ℕ) (us : List UndoRecord)
    → forget_row (versions_of value (new_record by base ∷ us)) ≡ write by value (forget_row (versions_of base us))

-- the newest record taken away, and its value given back to the row, is an undo
abbrev pub PopIsUndo : Type 0
PopIsUndo = (base : Option ℕ) (u : UndoRecord) (us : List UndoRecord)
    → forget_row (versions_of u.older us) ≡ undo (forget_row (versions_of base (u ∷ us)))

-- the records before the first settled one are what a prune leaves
abbrev pub FrontIsPruned : Type 0
FrontIsPruned = (stamps : TxnName → Option ℕ) (horizon : ℕ) (base : Option ℕ) (us : List UndoRecord)
    → versions_of base (unsettled_front stamps horizon us) ≡ prune_stamped stamps horizon (versions_of base us)

-- stamped records are stamped versions
abbrev pub StampIsStamp : Type 0
StampIsStamp = (by : TxnName) (at : ℕ) (base : Option ℕ) (us : List UndoRecord)
    → versions_of base (map (stamped_by by at) us) ≡ stamp by at (versions_of base us)
