-- A load adds vertices and edges alone.
use Rattle.std.proofs.Common.{◌≡◌, ℕ, List, [], ◌∷◌, sym, subst}
use Rattle.std.specs.Prelude.{Result, IfOk, Ok, Err}
use Rattle.std.specs.List.{AllByRecursion}
use Rattle.graph_model.specs.Loading.{IsAdd}
use Rattle.graphalytics_io.specs.declared.edges.Edge.{Edge}
use Rattle.graphalytics_io.specs.Load.{load_of}

pub load_adds : (ids : List ℕ) (edges : List Edge) → AllByRecursion IsAdd (load_of ids edges)
load_adds [] [] = tt
load_adds [] (edge ∷ edges) = (tt, load_adds [] edges)
load_adds (v ∷ ids) edges = (tt, load_adds ids edges)

-- what holds of a value holds of a result that is this value
pub of_same : {X E : Type 0} (P : X → Type 0) (result : Result X E) (value : X) → IfOk result (λ x. x ≡ value) → P value
    → IfOk result P
of_same P (Ok x) value same holds = subst P (sym same) holds
of_same P (Err e) value same holds = tt
