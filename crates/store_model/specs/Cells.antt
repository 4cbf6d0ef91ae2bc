-- Contents that lie in cells: the rows of all cells, one behind the other, looked up by key.
use Rattle.std.specs.Prelude.{◌≡◌, ℕ, true, List, Option, Some, None, slice_get}
use Rattle.std.specs.List.{AllByRecursion, flat_map}
use Rattle.std.specs.FinMap.Entries.{find}
use Rattle.graph_model.specs.declared.row.Key.{Key}
use Rattle.graph_model.specs.Rows.{key_cmp, is_between}
use Rattle.store_model.specs.declared.versions.Versions.{Versions}
use Rattle.store_model.specs.Versions.{no_versions}

-- rows under fence keys: from the low one on and below the high one
pub record Cell : Type 0 where
  pub low : Key
  pub high : Key
  pub rows : List (Key × Versions)

abbrev pub all_cells : List Cell → List (Key × Versions)
all_cells cells = flat_map (λ c. c.rows) cells

abbrev pub or_none : Option Versions → Versions
or_none None = no_versions
or_none (Some vs) = vs

-- the versions of a key among rows; how these are divided among cells doesn't matter
abbrev pub contents_in : List (Key × Versions) → Key → Versions
contents_in rows k = or_none (find key_cmp k rows)

-- rows stand within the fence keys of their cell, and no key lies within those of two cells
pub record AreCells (cells : List Cell) : Type 0 where
  pub within : (i : ℕ) (c : Cell) → slice_get cells i ≡ Some c
      → AllByRecursion (λ e. is_between c.low c.high e.0 ≡ true) c.rows
  pub apart : (i j : ℕ) (c d : Cell) (k : Key) → slice_get cells i ≡ Some c → slice_get cells j ≡ Some d
      → is_between c.low c.high k ≡ true → is_between d.low d.high k ≡ true → i ≡ j
