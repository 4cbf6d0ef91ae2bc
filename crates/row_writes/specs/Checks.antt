-- What a check of a write answers: by what its view refuses, and by who stands against it.
use Rattle.std.specs.Prelude.{◌≡◌, ℕ, ◌==◌, Bool, true, false, List, [], ◌∷◌, ◌++◌, Option, Some, None, Result, Ok, Err}
use Rattle.graph_model.specs.declared.row.Key.{Key}
use Rattle.graph_model.specs.declared.journal.TxnName.{TxnName}
use Rattle.graph_model.specs.declared.write.Write.{Write}
use Rattle.graph_model.specs.declared.write.Write.TheVariants.{AddVertex, DropVertex, AddEdge, SetEdge, DropEdge}
use Rattle.graph_model.specs.declared.refusal.Cause.{Cause}
use Rattle.graph_model.specs.declared.refusal.Refusal.{Refusal}
use Rattle.graph_model.specs.declared.refusal.Refusal.TheVariants as refusals
use Rattle.graph_model.specs.Graph.{Graph, has_vertex, has_edges}
use Rattle.graph_model.specs.Refused.{refused, unless_ends}
use Rattle.graph_model.specs.Rows.{value_at, vertex_key, arc_key}
use Rattle.store_model.specs.Stamped.{Stamped, StampedVersions, read_stamped}
use Rattle.undo_chain.specs.declared.states.Snapshot.{Snapshot}
use Rattle.undo_chain.specs.States.{Knowledge}
use Rattle.version_segment.specs.Checks.{IsChecked, IsNamed, newest_of, newest_and_touches, drops_of}
use Rattle.row_writes.specs.Held.{HeldRows}

-- ---- what a check needs

-- the keys at whose rows a check looks
abbrev pub looked_keys : Write → List Key
looked_keys (AddVertex v) = vertex_key v ∷ []
looked_keys (DropVertex v) = vertex_key v ∷ []
looked_keys (AddEdge u v weight) = arc_key u v ∷ vertex_key u ∷ vertex_key v ∷ []
looked_keys (SetEdge u v weight) = arc_key u v ∷ vertex_key u ∷ vertex_key v ∷ []
looked_keys (DropEdge u v) = arc_key u v ∷ vertex_key u ∷ vertex_key v ∷ []

-- the snapshot sees this graph in the rows that are held
abbrev pub ShowsHeld : (TxnName → Option ℕ) → Snapshot → HeldRows → Graph → Type 0
ShowsHeld stamps snapshot c g =
    (k : Key) → c.holds k ≡ true → read_stamped stamps snapshot.start snapshot.own (c.versions k) ≡ value_at g k

-- in the rows that are held the writers of records without a stamp may be asked for
abbrev pub AreNamedHeld : (TxnName → Bool) → HeldRows → Type 0
AreNamedHeld names c = (k : Key) → c.holds k ≡ true → IsNamed names (c.versions k)

-- the question may be asked of the vertex that the write removes
abbrev pub MayBeAsked : (ℕ → Type 0) → Write → Type 0
MayBeAsked pre (AddVertex v) = Unit {0}
MayBeAsked pre (DropVertex v) = pre v
MayBeAsked pre (AddEdge u v weight) = Unit {0}
MayBeAsked pre (SetEdge u v weight) = Unit {0}
MayBeAsked pre (DropEdge u v) = Unit {0}

-- and its answer is whether that has edges in the graph
abbrev pub TellsEdges : (ℕ → Bool → Type 0) → Graph → Write → Type 0
TellsEdges post g (AddVertex v) = Unit {0}
TellsEdges post g (DropVertex v) = (answer : Bool) → post v answer → answer ≡ has_edges g v
TellsEdges post g (AddEdge u v weight) = Unit {0}
TellsEdges post g (SetEdge u v weight) = Unit {0}
TellsEdges post g (DropEdge u v) = Unit {0}

-- ---- what it answers

-- The records at which a write looks: the newest of the row that it writes; where it adds an edge, those of whoever
-- removed an end; where it removes a vertex, those of whoever added an edge there.
abbrev pub looked_at : Write → (Key → StampedVersions) → List Stamped
looked_at (AddVertex v) versions = newest_of (versions (vertex_key v))
looked_at (DropVertex v) versions = newest_and_touches (versions (vertex_key v))
looked_at (AddEdge u v weight) versions =
    newest_of (versions (arc_key u v)) ++ (drops_of (versions (vertex_key u)) ++ drops_of (versions (vertex_key v)))
looked_at (SetEdge u v weight) versions = newest_of (versions (arc_key u v))
looked_at (DropEdge u v) versions = newest_of (versions (arc_key u v))

-- what the view refuses comes first, then whoever stands against the write
abbrev pub answer_of : Option Refusal → Option Cause → Option Refusal
answer_of (Some refusal) cause = Some refusal
answer_of None (Some cause) = Some (refusals.Conflict cause)
answer_of None None = None

abbrev pub refusal_in : {X : Type 0} → Result X Refusal → Option Refusal
refusal_in (Ok x) = None
refusal_in (Err refusal) = Some refusal

-- The answer where this is refused by the view: else the conflict with whoever stands in these records against the
-- write.
pub record Answers {X : Type 0} (old new : Knowledge) (snapshot : Snapshot) (view : Option Refusal)
    (records : List Stamped) (result : Result X Refusal) : Type 0 where
  pub cause : Option Cause
  pub checked : view ≡ None → IsChecked old new snapshot records cause
  pub is : refusal_in result ≡ answer_of view cause

-- the answer to a write, where the snapshot sees this graph
abbrev pub IsAnswer : {X : Type 0} → Knowledge → Knowledge → Snapshot → HeldRows → Graph → Write → Result X Refusal
    → Type 0
IsAnswer old new snapshot c g w result = Answers old new snapshot (refused g w) (looked_at w c.versions) result

-- the ends of an edge are two vertices of the graph, or the graph refuses the edge
abbrev pub SeesEnds : {X : Type 0} → Graph → ℕ → ℕ → Result X Refusal → Type 0
SeesEnds g u v (Ok ends) = ((u == v) ≡ false) × (has_vertex g u ≡ true) × (has_vertex g v ≡ true)
SeesEnds g u v (Err refusal) = (answer : Option Refusal) → unless_ends g u v answer ≡ Some refusal
