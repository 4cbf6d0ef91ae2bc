-- Undo records of one row, newest first, and the versions that they stand for.
use Rattle.std.specs.Prelude.{◌≡◌, ℕ, Bool, ◌&&◌, ◌||◌, not, is_some, cond, List, [], ◌∷◌, Option, Some, None}
use Rattle.std.specs.List.{list_any, filter}
use Rattle.graph_model.specs.declared.journal.TxnName.{TxnName}
use Rattle.graph_model.specs.Conflict.{same_name}
use Rattle.graph_model.specs.Transactions.{reached}
use Rattle.store_model.specs.Stamped.{Stamped, StampedVersions, stamp_or, read_stamped}
use Rattle.undo_chain.specs.declared.states.Snapshot.{Snapshot}

-- What takes one write back: its writer, the writer's commit stamp once it is known, and the value that
-- the row had before. Of a touch the value isn't read.
pub record UndoRecord : Type 0 where
  pub by : TxnName
  pub stamp : Option ℕ
  pub older : Option ℕ

-- a record just made
abbrev pub new_record : TxnName → Option ℕ → UndoRecord
new_record by older = record { by = by; stamp = None; older = older }

-- ---- versions

-- each writer left the value that was there before the next newer write, and the newest one the row's own
abbrev pub pairs_of : Option ℕ → List UndoRecord → List Stamped
pairs_of base [] = []
pairs_of base (u ∷ us) = record { by = u.by; stamp = u.stamp; value = base } ∷ pairs_of u.older us

-- the value before the oldest write
abbrev pub oldest_of : Option ℕ → List UndoRecord → Option ℕ
oldest_of base [] = base
oldest_of base (u ∷ us) = oldest_of u.older us

-- a row's value and its records, as versions
abbrev pub versions_of : Option ℕ → List UndoRecord → StampedVersions
versions_of base us = record { pairs = pairs_of base us; oldest = oldest_of base us; touches = [] }

-- ---- writers

-- the commit stamp of a record's writer: its own, else what is known of the writer
abbrev pub stamp_of : (TxnName → Option ℕ) → UndoRecord → Option ℕ
stamp_of stamps u = stamp_or u.stamp (stamps u.by)

-- the writer had committed by then
abbrev pub is_settled : (TxnName → Option ℕ) → ℕ → UndoRecord → Bool
is_settled stamps horizon u = reached (stamp_of stamps u) horizon

-- one of the records is by this writer
abbrev pub has_writer : TxnName → List UndoRecord → Bool
has_writer by us = list_any (λ u. same_name u.by by) us

-- a writer's touch stands among the touches once
abbrev pub with_touch : TxnName → List UndoRecord → List UndoRecord
with_touch by us = cond (has_writer by us) us (new_record by None ∷ us)

-- a writer's touch is taken away
abbrev pub without_touch : TxnName → List UndoRecord → List UndoRecord
without_touch by us = filter (λ u. not (same_name u.by by)) us

-- the touches whose writers had not committed by the horizon
abbrev pub open_touches : (TxnName → Option ℕ) → ℕ → List UndoRecord → List UndoRecord
open_touches stamps horizon us = filter (λ u. not (is_settled stamps horizon u)) us

abbrev pub lacks_stamp : UndoRecord → Bool
lacks_stamp u = not (is_some u.stamp)

-- a record of this writer that has no stamp gets this one
abbrev pub stamped_by : TxnName → ℕ → UndoRecord → UndoRecord
stamped_by by stamp u =
    cond (same_name u.by by && lacks_stamp u) (record { by = u.by; stamp = Some stamp; older = u.older }) u

-- the record has neither a stamp up to the horizon, nor none though it is this writer's: once this writer's records have
-- such a stamp, a prune leaves it
abbrev pub outlasts : TxnName → ℕ → UndoRecord → Bool
outlasts by horizon u = not (reached u.stamp horizon || (same_name u.by by && lacks_stamp u))

-- ---- lists

-- the writer of the newest record
abbrev pub newest_of : List UndoRecord → Option TxnName
newest_of [] = None
newest_of (u ∷ us) = Some u.by

-- the first list upside down, before the second
abbrev pub upside_down : List UndoRecord → List UndoRecord → List UndoRecord
upside_down [] below = below
upside_down (u ∷ us) below = upside_down us (u ∷ below)

-- the records in front of the first one that passes the test
abbrev pub front_of : (UndoRecord → Bool) → List UndoRecord → List UndoRecord
front_of test [] = []
front_of test (u ∷ us) = cond (test u) [] (u ∷ front_of test us)

-- the records before the first one whose writer had committed by the horizon
abbrev pub unsettled_front : (TxnName → Option ℕ) → ℕ → List UndoRecord → List UndoRecord
unsettled_front stamps horizon us = front_of (is_settled stamps horizon) us

-- the row's value for a snapshot
abbrev pub value_of : (TxnName → Option ℕ) → Snapshot → Option ℕ → List UndoRecord → Option ℕ
value_of stamps snapshot base us = read_stamped stamps snapshot.start snapshot.own (versions_of base us)

-- the newest record is gone, and this is the value that it had kept
pub record TakesNewest (old : List UndoRecord) (older : Option ℕ) (new : List UndoRecord) : Type 0 where
  pub undo : UndoRecord
  pub was : old ≡ undo ∷ new
  pub value : undo.older ≡ older
