-- Laws of the kernels: walks, components, labels and their tables. Each is the contract of a function
-- in `laws`.
use Rattle.std.specs.Prelude.{◌≡◌, ℕ, ◌+◌, ◌≤◌, List, [], length, Some, IsTrue}
use Rattle.graph_model.specs.declared.limits.TheConstants.{MAX_ID, NO_WALK}
use Rattle.graph_model.specs.declared.write.Kind.{Kind}
use Rattle.graph_model.specs.declared.write.Kind.TheVariants.{Directed, Undirected}
use Rattle.graph_model.specs.declared.table.Entry.{Entry}
use Rattle.graph_model.specs.Graph.{Graph, has_vertex, has_arc, weight_of, HasBothEnds, IsSymmetric}
use Rattle.graph_model.specs.Walks.{IsWalk, walk_weight, IsLeastLength, IsLeastWeight, IsUnreached, IsDistance, Reaches, ReachesBy, ReachesWithin}
use Rattle.graph_model.specs.Components.{IsComponent}
use Rattle.graph_model.specs.Labels.{neighbours, label}
use Rattle.graph_model.specs.Tables.{IsBfs, IsSssp, IsWcc, IsCdlp}

-- ---- walks

-- the root is reached by no arc, at no weight
abbrev pub RootIsNearest : Type 0
RootIsNearest = (g : Graph) (root : ℕ) → IsTrue (has_vertex g root) → IsLeastLength g root root 0
    × IsLeastWeight g root root 0

-- a vertex has one distance
abbrev pub OneDistance : Type 0
OneDistance = (g : Graph) (root v m n : ℕ) → IsDistance g root v m → IsDistance g root v n → m ≡ n

-- and one least weight
abbrev pub OneLeastWeight : Type 0
OneLeastWeight = (g : Graph) (root v m n : ℕ) → IsLeastWeight g root v m → IsLeastWeight g root v n → m ≡ n

-- an arc leads to a vertex at most one further away
abbrev pub ArcAddsOne : Type 0
ArcAddsOne = (g : Graph) (root u v m n : ℕ) → IsTrue (has_arc g u v) → IsTrue (has_vertex g v)
    → IsLeastLength g root u m → IsLeastLength g root v n → n ≤ m + 1

-- or at most its weight further away
abbrev pub ArcAddsItsWeight : Type 0
ArcAddsItsWeight = (g : Graph) (root u v step m n : ℕ) → weight_of g u v ≡ Some step
    → IsTrue (has_vertex g v) → IsLeastWeight g root u m → IsLeastWeight g root v n → n ≤ m + step

-- where ids are within their limit, the number that stands for no walk means that there is none
abbrev pub NoWalkIsNone : Type 0
NoWalkIsNone = (g : Graph) (root v : ℕ) → ((q : ℕ) → IsTrue (has_vertex g q) → q ≤ MAX_ID)
    → IsDistance g root v NO_WALK → IsUnreached g root v

-- a walk, by its arcs from the near end to the far one, and back
abbrev pub WalksReach : Type 0
WalksReach = (g : Graph) (a b : ℕ) (vs : List ℕ) → IsWalk g a vs b → Reaches g a (length vs) b
    × ReachesBy g a (length vs) b (walk_weight g a vs) × ReachesWithin g a (length vs) b

-- what is reached by so many arcs, a walk of so many leads to
abbrev pub ReachesIsWalk : Type 0
ReachesIsWalk = (g : Graph) (a n b : ℕ) → Reaches g a n b → (vs : List ℕ) × IsWalk g a vs b × (length vs ≡ n)

-- with this weight, a walk with this weight
abbrev pub ReachesByIsWalk : Type 0
ReachesByIsWalk = (g : Graph) (a n b weight : ℕ) → ReachesBy g a n b weight → (vs : List ℕ)
    × IsWalk g a vs b × (length vs ≡ n) × (walk_weight g a vs ≡ weight)

-- within so many arcs, a walk of at most so many
abbrev pub ReachesWithinIsWalk : Type 0
ReachesWithinIsWalk = (g : Graph) (a n b : ℕ) → ReachesWithin g a n b → (vs : List ℕ) × IsWalk g a vs b
    × (length vs ≤ n)

-- ---- components

-- a vertex's component is not above it
abbrev pub ComponentIsNotAbove : Type 0
ComponentIsNotAbove = (g : Graph) (v c : ℕ) → IsComponent g v c → c ≤ v

-- and there is one
abbrev pub OneComponent : Type 0
OneComponent = (g : Graph) (v c d : ℕ) → IsComponent g v c → IsComponent g v d → c ≡ d

-- the ends of an arc are in one component
abbrev pub ArcJoinsComponents : Type 0
ArcJoinsComponents = (g : Graph) (u v c d : ℕ) → HasBothEnds g → IsTrue (has_arc g u v) → IsComponent g u c
    → IsComponent g v d → c ≡ d

-- a component's least vertex is its own component
abbrev pub LeastIsItsComponent : Type 0
LeastIsItsComponent = (g : Graph) (v c : ℕ) → IsComponent g v c → IsComponent g c c

-- ---- labels

-- before the first round each vertex has itself as its label
abbrev pub FirstLabelIsTheVertex : Type 0
FirstLabelIsTheVertex = (kind : Kind) (g : Graph) (v : ℕ) → label kind g 0 v ≡ v

-- a vertex without neighbours keeps its label
abbrev pub LonelyKeepsItsLabel : Type 0
LonelyKeepsItsLabel = (kind : Kind) (g : Graph) (rounds v : ℕ) → neighbours kind g v ≡ []
    → label kind g (rounds + 1) v ≡ label kind g rounds v

-- in a symmetric graph it doesn't matter whether a neighbour counts once or twice
abbrev pub TwiceIsOnce : Type 0
TwiceIsOnce = (g : Graph) (rounds v : ℕ) → IsSymmetric g
    → label Directed g rounds v ≡ label Undirected g rounds v

-- ---- tables

-- a graph has one table of each kernel
abbrev pub OneTable : Type 0
OneTable = (kind : Kind) (g : Graph) (root rounds : ℕ) (s t : List Entry)
    → (IsBfs g root s → IsBfs g root t → s ≡ t) × (IsSssp g root s → IsSssp g root t → s ≡ t)
    × (IsWcc g s → IsWcc g t → s ≡ t) × (IsCdlp kind g rounds s → IsCdlp kind g rounds t → s ≡ t)
