-- The entries of a table.
use Rattle.std.specs.Prelude.{◌≡◌, ℕ, List, map, slice_get, Some}
use Rattle.graph_model.specs.declared.table.Entry.{Entry}
use Rattle.graph_model.specs.declared.table.Value.{Value}

-- one entry for each vertex, with the value at its place
pub record AreEntries (vertices : List ℕ) (values : List Value) (entries : List Entry) : Type 0 where
  pub listed : map (λ e. e.vertex) entries ≡ vertices
  pub each : (i : ℕ) (e : Entry) → slice_get entries i ≡ Some e
      → (slice_get vertices i ≡ Some e.vertex) × (slice_get values i ≡ Some e.value)
