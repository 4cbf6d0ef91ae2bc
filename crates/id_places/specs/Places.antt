-- Where ids stand in a list, and the numbers of edges by the places of their ends.
use Rattle.std.specs.Prelude.{◌≡◌, ◌≢◌, ℕ, ◌==◌, ◌*◌, ◌+◌, ◌^◌, ◌%◌, ◌<◌, ◌≤◌, min, max, Bool, true, List, length, map, All, slice_index, Option, Some}
use Rattle.std.specs.List.{list_any, position, position_or_len}
use Rattle.graphalytics_io.specs.declared.edges.Edge.{Edge}
use Rattle.graph_model.specs.declared.write.Kind.{Kind}
use Rattle.graph_model.specs.declared.write.Kind.TheVariants.{Directed, Undirected}
use Rattle.id_places.specs.declared.slots.IdSlot.{IdSlot}
use Rattle.id_places.specs.declared.slots.TheConstants.{NOWHERE}

-- the id is one of these
abbrev pub is_among : List ℕ → ℕ → Bool
is_among ids v = list_any (λ id. id == v) ids

-- the first ids, so many, have no gap between them
pub record StartsDense (ids : List ℕ) (count : ℕ) : Type 0 where
  pub within : count ≤ length ids
  pub each : (i : ℕ) → i < count → slice_index ids i ≡ slice_index ids 0 + i

-- the first place of an id
abbrev pub place_of : List ℕ → ℕ → Option ℕ
place_of ids v = position (λ id. id == v) ids

-- a slot is empty, or has the first place of its id
abbrev pub IsRight : List ℕ → IdSlot → Type 0
IsRight ids slot = slot.place ≢ NOWHERE → place_of ids slot.id ≡ Some slot.place

-- a number for the places of an edge's ends: the same for both directions where they don't count
abbrev pub pair_of : Kind → ℕ → ℕ → ℕ
pair_of Directed source target = (source * 2 ^ 32 % 2 ^ 64 + target) % 2 ^ 64
pair_of Undirected source target = (min source target * 2 ^ 32 % 2 ^ 64 + max source target) % 2 ^ 64

-- the number of an edge
abbrev pub pair_in : Kind → List ℕ → Edge → ℕ
pair_in kind ids edge =
    pair_of kind (position_or_len (λ id. id == edge.u) ids) (position_or_len (λ id. id == edge.v) ids)

-- this is the number of an edge between the ids
pub record IsNumberOf (kind : Kind) (ids : List ℕ) (edge : Edge) (number : ℕ) : Type 0 where
  pub source : is_among ids edge.u ≡ true
  pub target : is_among ids edge.v ≡ true
  pub here : number ≡ pair_in kind ids edge

-- these are the numbers of edges between the ids
pub record AreNumbers (kind : Kind) (ids : List ℕ) (edges : List Edge) (numbers : List ℕ) : Type 0 where
  pub sources : All (λ edge. is_among ids edge.u ≡ true) edges
  pub targets : All (λ edge. is_among ids edge.v ≡ true) edges
  pub each : numbers ≡ map (pair_in kind ids) edges
