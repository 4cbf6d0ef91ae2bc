-- Laws of rows. Each is the contract of a function in `laws`.
use Rattle.std.specs.Prelude.{◌≡◌, ℕ, ◌<◌, false, ◌++◌, slice_get, Some, IsTrue}
use Rattle.graph_model.specs.declared.row.Key.{Key}
use Rattle.graph_model.specs.declared.row.Row.{Row}
use Rattle.graph_model.specs.Graph.{Graph}
use Rattle.graph_model.specs.Rows.{is_below, is_between, rows, value_at}

-- ---- rows

-- the keys of rows rise, so no key stands twice
abbrev pub RowsRise : Type 0
RowsRise = (g : Graph) (from until : Key) (i j : ℕ) (a b : Row) → i < j
    → slice_get (rows g from until) i ≡ Some a → slice_get (rows g from until) j ≡ Some b
    → IsTrue (is_below a.key b.key)

-- a row has a key of the range, and what the graph has there
abbrev pub RowsAreOfTheGraph : Type 0
RowsAreOfTheGraph = (g : Graph) (from until : Key) (i : ℕ) (r : Row)
    → slice_get (rows g from until) i ≡ Some r → IsTrue (is_between from until r.key)
    × (value_at g r.key ≡ Some r.weight)

-- each key of the range at which the graph has something has its row
abbrev pub RowsAreComplete : Type 0
RowsAreComplete = (g : Graph) (from until key : Key) (weight : ℕ) → IsTrue (is_between from until key)
    → value_at g key ≡ Some weight
    → (i : ℕ) × (slice_get (rows g from until) i ≡ Some (record { key = key; weight = weight }))

-- the rows of two adjoining ranges, one behind the other, are the rows of both
abbrev pub RangesAdjoin : Type 0
RangesAdjoin = (g : Graph) (from between until : Key) → is_below between from ≡ false
    → is_below until between ≡ false → rows g from between ++ rows g between until ≡ rows g from until
