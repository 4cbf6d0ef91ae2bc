-- What a seat of the account table knows, and what it knows after a step.
use Rattle.std.specs.Prelude.{◌≡◌, ℕ, ◌*◌, ◌++◌, Bool, false, List, [], ◌∷◌, Option, Some, None}
use Rattle.graph_model.specs.declared.journal.Commit.{Commit}
use Rattle.txn_manager.specs.declared.config.Config.{Config}
use Rattle.leaf_index.specs.Index.{Index}
use Rattle.seat_views.specs.Keeping.{kept_at, revised, AreKept}
use Rattle.epoch_reclaim.specs.declared.sweep.Sweep.{Sweep}
use Rattle.store_relation.specs.Passes.{PassState}
use Rattle.store_relation.specs.Readers.{ReaderState}
use Rattle.store_relation.specs.Shared.{JournalState}
use Rattle.cells_model.specs.Cells.{CellState}
use Rattle.cells_model.specs.Reads.{Reading}

-- ---- one seat

-- what a pass has announced, which leaves it has noted, and its sweep
pub record PinState : Type 0 where
  pub announced : Bool
  pub noted : List ℕ
  pub sweep : Option Sweep

abbrev pub fresh_pin : PinState
fresh_pin = record { announced = false; noted = []; sweep = None }

-- the index, and the pass that sweeps with it in hand
pub record IndexState : Type 0 where
  pub index : Index
  pub sweeper : Option ℕ

-- a version word that a load has found
pub record FoundWord : Type 0 where
  pub cell : ℕ
  pub word : ℕ

-- the read under way, and the version words that were found, the last one first
pub record ReadState : Type 0 where
  pub reading : Option Reading
  pub found : List FoundWord

abbrev pub no_reads : ReadState
no_reads = record { reading = None; found = [] }

-- What a seat keeps of passes, pins, cells, the index and the journal, by their numbers; commits
-- of which it was told; readers that it has; and its read.
pub record Sight : Type 0 where
  pub passes : List (ℕ × PassState)
  pub pins : List (ℕ × PinState)
  pub cells : List (ℕ × CellState)
  pub indexes : List (ℕ × IndexState)
  pub journals : List (ℕ × JournalState)
  pub told : List Commit
  pub readers : List ReaderState
  pub reads : ReadState

abbrev pub no_sight : Sight
no_sight = record {
  passes = [];
  pins = [];
  cells = [];
  indexes = [];
  journals = [];
  told = [];
  readers = [];
  reads = no_reads;
}

abbrev pub HasPass : Sight → ℕ → PassState → Type 0
HasPass v p st = kept_at v.passes p ≡ Some st

abbrev pub HasPin : Sight → ℕ → PinState → Type 0
HasPin v p x = kept_at v.pins p ≡ Some x

abbrev pub HasCell : Sight → ℕ → CellState → Type 0
HasCell v k c = kept_at v.cells k ≡ Some c

-- there is one index and one journal
abbrev pub HasIndex : Sight → IndexState → Type 0
HasIndex v y = kept_at v.indexes 0 ≡ Some y

abbrev pub HasJournal : Sight → JournalState → Type 0
HasJournal v j = kept_at v.journals 0 ≡ Some j

-- contents of all cells that are as the view has them
abbrev pub Agrees : Sight → (ℕ → CellState) → Type 0
Agrees v cell = (k : ℕ) (c : CellState) → HasCell v k c → cell k ≡ c

-- ---- all seats together

pub record Known : Type 0 where
  pub pass : ℕ → PassState
  pub pin : ℕ → PinState
  pub cell : ℕ → CellState
  pub index : ℕ → IndexState
  pub journal : ℕ → JournalState

abbrev pub cells_of : Config → ℕ
cells_of z = 8 * z.leaves

-- ---- a step

-- news of what a seat keeps
pub record News : Type 0 where
  pub passes : List (ℕ × PassState)
  pub pins : List (ℕ × PinState)
  pub cells : List (ℕ × CellState)
  pub indexes : List (ℕ × IndexState)
  pub journals : List (ℕ × JournalState)

abbrev pub no_news : News
no_news = record { passes = []; pins = []; cells = []; indexes = []; journals = [] }

-- news are of what the view has
pub record AreNews (v : Sight) (n : News) : Type 0 where
  pub passes : AreKept v.passes n.passes
  pub pins : AreKept v.pins n.pins
  pub cells : AreKept v.cells n.cells
  pub indexes : AreKept v.indexes n.indexes
  pub journals : AreKept v.journals n.journals

abbrev pub with_news : Sight → News → ReadState → Sight
with_news v n reads = record v {
  passes = n.passes ++ v.passes;
  pins = n.pins ++ v.pins;
  cells = n.cells ++ v.cells;
  indexes = n.indexes ++ v.indexes;
  journals = n.journals ++ v.journals;
  reads = reads;
}

abbrev pub after : Known → News → Known
after k n = record {
  pass = revised k.pass n.passes;
  pin = revised k.pin n.pins;
  cell = revised k.cell n.cells;
  index = revised k.index n.indexes;
  journal = revised k.journal n.journals;
}

-- news of one pass, one pin, some cells, the index; and of a pass with the journal, or with cells
abbrev pub with_pass : Sight → ℕ → PassState → Sight
with_pass v p st = with_news v (record no_news { passes = (p, st) ∷ [] }) v.reads

abbrev pub with_pin : Sight → ℕ → PinState → Sight
with_pin v p x = with_news v (record no_news { pins = (p, x) ∷ [] }) v.reads

abbrev pub with_cells : Sight → List (ℕ × CellState) → Sight
with_cells v cells = with_news v (record no_news { cells = cells }) v.reads

abbrev pub with_cell : Sight → ℕ → CellState → Sight
with_cell v k c = with_cells v ((k, c) ∷ [])

abbrev pub with_index : Sight → IndexState → Sight
with_index v y = with_news v (record no_news { indexes = (0, y) ∷ [] }) v.reads

abbrev pub with_journal : Sight → JournalState → Sight
with_journal v j = with_news v (record no_news { journals = (0, j) ∷ [] }) v.reads

abbrev pub with_commit : Sight → ℕ → PassState → JournalState → Sight
with_commit v p st j = with_news v (record no_news {
  passes = (p, st) ∷ [];
  journals = (0, j) ∷ [];
}) v.reads

abbrev pub with_rows : Sight → ℕ → PassState → List (ℕ × CellState) → Sight
with_rows v p st cells = with_news v (record no_news {
  passes = (p, st) ∷ [];
  cells = cells;
}) v.reads

-- a read goes on, and a version word was found
abbrev pub with_reading : Sight → Option Reading → Sight
with_reading v reading = with_news v no_news (record v.reads { reading = reading })

abbrev pub with_found : Sight → Option Reading → ℕ → ℕ → Sight
with_found v reading k n =
    with_news v no_news (record {
      reading = reading;
      found = record { cell = k; word = n } ∷ v.reads.found;
    })
