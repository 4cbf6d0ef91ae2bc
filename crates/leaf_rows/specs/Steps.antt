-- How room is made for one key or two. Only the crate itself speaks of it.
use Rattle.std.specs.Prelude.{◌≡◌, ◌⊎◌, ℕ, ◌-◌, ◌<◌, ◌≤◌, false, ◌&&◌, not}
use Rattle.std.specs.Prelude.{List, [], ◌∷◌, Option, Some, None, length, count_by}
use Rattle.graph_model.specs.declared.row.Key.{Key}
use Rattle.leaf_store.specs.Leaves.{Leaves, room_at}
use Rattle.graph_model.specs.declared.limits.TheConstants.{SEGMENT_ROWS}
use Rattle.graph_model.specs.Rows.{is_between}
use Rattle.row_writes.specs.VersionSegment.Rows.{VersionedRows, has_row as has_row_in}

-- one key or two
abbrev pub keys_with : Key → Option Key → List Key
keys_with key None = key ∷ []
keys_with key (Some other) = key ∷ other ∷ []

-- a cell keeps its room, or has changed and then has room for two rows
abbrev pub KeepsRoom : Leaves → Leaves → Type 0
KeepsRoom old new = (q : Key) → (room_at old q ≤ room_at new q) ⊎ (2 ≤ room_at new q)

-- how many of these keys a cell holds without a row
abbrev pub wanted_in : VersionedRows → List Key → ℕ
wanted_in c keys = count_by (λ q. not (has_row_in c q) && is_between c.low c.high q) keys

-- so many rows more than there is room for are wanted in a cell, that of the key among them
pub record IsNeed (c : VersionedRows) (key : Key) (keys : List Key) (need : ℕ) : Type 0 where
  pub missing : has_row_in c key ≡ false
  pub is : need ≡ wanted_in c keys
  pub short : SEGMENT_ROWS - length c.rows < need
  pub some : 1 ≤ need
  pub few : need ≤ 2
