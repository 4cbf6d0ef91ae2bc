-- A load: the first transaction of a new engine, taken as a whole. What it finds, what it leaves, and why it
-- may be refused.
use Rattle.std.specs.Prelude.{◌≡◌, ◌*◌, ◌<◌, ◌≤◌, List, [], ◌∷◌, None}
use Rattle.std.specs.List.{AllByRecursion}
use Rattle.graph_model.specs.declared.journal.Commit.{Commit}
use Rattle.graph_model.specs.declared.limits.TheConstants.{SPLIT_ROWS}
use Rattle.graph_model.specs.declared.load.LoadRefusal.{LoadRefusal}
use Rattle.graph_model.specs.declared.load.LoadRefusal.TheVariants as refusals
use Rattle.graph_model.specs.declared.write.Write.{Write}
use Rattle.graph_model.specs.declared.write.Write.TheVariants.{AddVertex, DropVertex, AddEdge, SetEdge, DropEdge}
use Rattle.graph_model.specs.Graph.{empty_graph}
use Rattle.graph_model.specs.Inserted.{inserted}
use Rattle.graph_model.specs.OwnerCalls.{PassState, Core, current, with_current}
use Rattle.graph_model.specs.Refused.{AllAllowed, IsWithinLimits}

-- a pass that has begun nothing
pub record HasBegunNothing (state : PassState) : Type 0 where
  pub begun : state.begun ≡ 0
  pub made : state.made ≡ []
  pub start : state.start ≡ None
  pub own : state.own ≡ []

-- an engine before its first call: an empty journal, and passes that have begun nothing. The first of them is
-- selected, and may begin a transaction
pub record IsNew (core : Core) : Type 0 where
  pub first : PassState
  pub others : List PassState
  pub passes : core.passes ≡ first ∷ others
  pub selected : core.selected ≡ 0
  pub journal : core.journal ≡ []
  pub each : AllByRecursion HasBegunNothing (first ∷ others)
  pub allowed : 0 < first.allowed

-- a write of a load adds a vertex or an edge
abbrev pub IsAdd : Write → Type 0
IsAdd (AddVertex v) = Unit {0}
IsAdd (DropVertex v) = ⊥
IsAdd (AddEdge u v weight) = Unit {0}
IsAdd (SetEdge u v weight) = ⊥
IsAdd (DropEdge u v) = ⊥

-- writes that a load may consist of: the empty graph allows them one behind the other
pub record IsLoad (core : Core) (load : List Write) : Type 0 where
  pub adds : AllByRecursion IsAdd load
  pub allowed : AllAllowed core.kind empty_graph load
  pub within : AllByRecursion IsWithinLimits load

-- the journal after a load: one commit, or none where there is nothing to load
abbrev pub journal_of : List Write → List Commit
journal_of [] = []
journal_of (w ∷ ws) = record { stamp = 1; start = 0; by = record { job = 0; number = 1 }; writes = w ∷ ws } ∷ []

-- the engine behind the load: its commit stands alone in the journal, unless it wrote nothing
abbrev pub loaded : Core → List Write → Core
loaded core load =
    record (with_current core (record (current core) { begun = 1; made = load ∷ [] })) { journal = journal_of load }

-- why a load is refused: its rows may fill the leaves, or memory is wanted
abbrev pub IsLoadRefusal : Core → List Write → LoadRefusal → Type 0
IsLoadRefusal core load (refusals.Full leaves) =
    (leaves ≡ core.leaves) × (SPLIT_ROWS * leaves ≤ inserted core.kind load)
IsLoadRefusal core load refusals.NoMemory = Unit {0}
