-- Notes: seats that keep one thing each, and views that are cut and joined.
use Rattle.std.specs.Prelude.{◌≡◌, ℕ, [], ◌∷◌}
use Rattle.atomic_table.specs.Seated.{TableId}
use Rattle.atomic_table.specs.declared.shared.Seat.{Seat}
use Rattle.seat_views.specs.Keeping.{without}
use Rattle.rule_model.specs.StoreRelation.Passes.{PassState}
use Rattle.rule_model.specs.StoreRelation.Shared.{JournalState}
use Rattle.rule_model.specs.CellsModel.Cells.{CellState}
use Rattle.rule_model.specs.Sight.{IndexState, PinState, Sight, no_sight}

-- ---- what a note keeps

abbrev pub cell_note : ℕ → CellState → Sight
cell_note k c = record no_sight { cells = (k, c) ∷ [] }

abbrev pub index_note : IndexState → Sight
index_note y = record no_sight { indexes = (0, y) ∷ [] }

abbrev pub journal_note : JournalState → Sight
journal_note j = record no_sight { journals = (0, j) ∷ [] }

-- a pass, with its pin
abbrev pub pass_note : ℕ → PassState → PinState → Sight
pass_note p st x = record no_sight { passes = (p, st) ∷ []; pins = (p, x) ∷ [] }

-- ---- what is left of a view

abbrev pub without_cell : ℕ → Sight → Sight
without_cell k v = record v { cells = without k v.cells }

abbrev pub without_index : Sight → Sight
without_index v = record v { indexes = without 0 v.indexes }

abbrev pub without_journal : Sight → Sight
without_journal v = record v { journals = without 0 v.journals }

abbrev pub without_pass : ℕ → Sight → Sight
without_pass p v = record v { passes = without p v.passes; pins = without p v.pins }

-- ---- seats

-- a seat of this table that knows this
pub record IsNote (table : TableId) (sight : Sight) (note : Seat (Unit {0}) Sight) : Type 0 where
  pub table_is : note.table_id ≡ table
  pub me : note.me ≡ (sight, [])
