-- Listings of which some are second ones: the edge stood before, the other way round.
use Rattle.std.specs.Prelude.{◌≡◌, ◌≢◌, ◌⊎◌, ℕ, ◌<◌, ◌≤◌, List, [], ◌∷◌, ◌++◌, length, map, Contains}
use Rattle.graph_model.specs.declared.write.Kind.{Kind}
use Rattle.graph_model.specs.declared.write.Kind.TheVariants.{Undirected}
use Rattle.graphalytics_io.specs.declared.edges.Edge.{Edge}
use Rattle.graph_files.specs.declared.seconds.PartedListings.{PartedListings}

-- directions don't count, and the edge is the first one the other way round, with its weight, and no loop
pub record IsTurned (kind : Kind) (first edge : Edge) : Type 0 where
  pub undirected : kind ≡ Undirected
  pub source : edge.u ≡ first.v
  pub target : edge.v ≡ first.u
  pub weight : edge.weight ≡ first.weight
  pub apart : first.u ≢ first.v

-- each listing behind those of the kept edges in front is kept too, or is one of these the other way round
abbrev pub AreParted : Kind → List Edge → List Edge → List Edge → List Edge → Type 0
AreParted kind front [] kept seconds = (kept ≡ []) × (seconds ≡ [])
AreParted kind front (edge ∷ edges) kept seconds =
    ((more : List Edge) × (kept ≡ edge ∷ more) × AreParted kind (front ++ edge ∷ []) edges more seconds)
    ⊎ ((more : List Edge) × (seconds ≡ edge ∷ more)
    × ((first : Edge) × Contains front first × IsTurned kind first edge) × AreParted kind front edges kept more)

-- the parts of these listings, with the numbers that edges have; at most so many are kept
pub record AreParts (kind : Kind) (most : ℕ) (number : Edge → ℕ) (edges : List Edge) (parts : PartedListings) : Type 0 where
  pub seconds : List Edge
  pub parted : AreParted kind [] edges parts.kept seconds
  pub kept_numbers : parts.kept_numbers.items ≡ map number parts.kept
  pub second_numbers : parts.second_numbers.items ≡ map number seconds
  pub few : length parts.kept ≤ most

-- a listing is kept
pub record Keeps (most : ℕ) (old : PartedListings) (edge : Edge) (number : ℕ) (new : PartedListings) : Type 0 where
  pub room : length old.kept < most
  pub kept : new.kept ≡ old.kept ++ edge ∷ []
  pub kept_numbers : new.kept_numbers.items ≡ old.kept_numbers.items ++ number ∷ []
  pub second_numbers : new.second_numbers.items ≡ old.second_numbers.items

-- a listing is a second one
pub record Passes (kind : Kind) (old : PartedListings) (edge : Edge) (number : ℕ) (new : PartedListings) : Type 0 where
  pub first : Edge
  pub there : Contains old.kept first
  pub turned : IsTurned kind first edge
  pub kept : new.kept ≡ old.kept
  pub kept_numbers : new.kept_numbers.items ≡ old.kept_numbers.items
  pub second_numbers : new.second_numbers.items ≡ old.second_numbers.items ++ number ∷ []

-- a listing is taken, in one of these ways
abbrev pub Takes : Kind → ℕ → PartedListings → Edge → ℕ → PartedListings → Type 0
Takes kind most old edge number new = Keeps most old edge number new ⊎ Passes kind old edge number new
