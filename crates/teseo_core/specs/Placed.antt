-- How the rows of a write find their places, and that it is full exactly where they find none.
use Rattle.std.specs.Prelude.{◌≡◌, ℕ, ◌+◌, ◌≤◌, not, count_by, Result, Ok, Err}
use Rattle.graph_model.specs.declared.refusal.Refusal.{Refusal}
use Rattle.graph_model.specs.declared.refusal.Refusal.TheVariants as refusals
use Rattle.graph_model.specs.declared.write.Write.{Write}
use Rattle.txn_manager.specs.declared.config.RoomRefusal.TheVariants as room_refusals
use Rattle.leaf_rows.specs.LeafStore.Leaves.{Leaves, has_row, weight}
use Rattle.leaf_rows.specs.RowWritesDeclared.written.WrittenRows.{WrittenRows}
use Rattle.leaf_rows.specs.Laying.{HaveRoom, IsNoPlace, IsSpent}
use Rattle.leaf_rows.specs.Placing.{FindsPlaces}
use Rattle.leaf_rows.specs.RowWrites.Written.{rows_of, written_keys}
use Rattle.teseo_core.specs.Freeing.{IsFreeBound}
use Rattle.teseo_core.specs.Keeping.{Store}

-- each row of a write has found its place, and the store is as much fuller as rows were missing
pub record FillsPlaces (until : ℕ) (r : WrittenRows) (old new : Leaves) : Type 0 where
  pub placed : Leaves
  pub places : FindsPlaces until (written_keys r) old placed
  pub room : HaveRoom placed (written_keys r)
  pub limit : new.limit ≡ placed.limit
  pub fuller : weight new ≤ weight placed + count_by (λ k. not (has_row placed k)) (written_keys r)

-- One of them finds none: its cell has too little room, no window round it has enough, no leaf is free, and no retired
-- one has a stamp below the given one.
pub record LacksPlaces (until : ℕ) (r : WrittenRows) (leaves : ℕ) (old new : Leaves) : Type 0 where
  pub places : FindsPlaces until (written_keys r) old new
  pub none : IsNoPlace new (written_keys r) (room_refusals.Full leaves)
  pub spent : IsSpent until new (room_refusals.Full leaves)

-- A write that its view and the other writers allow is made where its rows find places, and full where they don't.
abbrev pub PlacesWrite : ℕ → WrittenRows → Leaves → Leaves → Result (Unit {0}) Refusal → Type 0
PlacesWrite until r old new (Ok done) = FillsPlaces until r old new
PlacesWrite until r old new (Err refusals.SelfLoop) = Unit {0}
PlacesWrite until r old new (Err (refusals.NoVertex v)) = Unit {0}
PlacesWrite until r old new (Err refusals.VertexExists) = Unit {0}
PlacesWrite until r old new (Err refusals.EdgeExists) = Unit {0}
PlacesWrite until r old new (Err refusals.NoEdge) = Unit {0}
PlacesWrite until r old new (Err refusals.HasEdges) = Unit {0}
PlacesWrite until r old new (Err (refusals.Conflict cause)) = Unit {0}
PlacesWrite until r old new (Err (refusals.Full leaves)) = LacksPlaces until r leaves old new
PlacesWrite until r old new (Err refusals.NoMemory) = Unit {0}

-- so it is of the store: all retired leaves that no open transaction needs can be freed for it
abbrev pub FullIsExact : Store → Write → Result (Unit {0}) Refusal → Store → Type 0
FullIsExact old w result new =
    (until : ℕ) × IsFreeBound old.core until × PlacesWrite until (rows_of old.core.kind w) old.rows new.rows result
