-- What an edge file (LDBC Graphalytics, `.e`) stands for: its edges, or its first fault.
use Rattle.std.specs.Prelude.{ℕ, ◌+◌, ◌*◌, Bool, false, ◌==◌, ◌&&◌, ◌||◌, not, cond, nat_lt, List, [], ◌∷◌, ◌++◌, length, Option, None, Some, is_some, Result, Ok, Err}
use Rattle.graph_model.specs.declared.write.Kind.{Kind}
use Rattle.graph_model.specs.declared.write.Kind.TheVariants.{Directed, Undirected}
use Rattle.graphalytics_io.specs.declared.edges.Edge.{Edge}
use Rattle.graphalytics_io.specs.declared.lines.FieldLine.{FieldLine}
use Rattle.graphalytics_io.specs.FieldLines.{field_lines}
use Rattle.graph_files.specs.declared.refusal.What.{What}
use Rattle.graph_files.specs.declared.refusal.What.TheVariants.{DuplicateEdge, UnknownVertex, SelfLoop, MissingField, ExtraField, TooManyRows}
use Rattle.graph_files.specs.declared.refusal.Fault.{Fault}
use Rattle.graph_files.specs.declared.weights.Weights.{Weights}
use Rattle.graph_files.specs.declared.weights.Weights.TheVariants.{Ones, Units}
use Rattle.graph_files.specs.declared.listings.Listing.{Listing}
use Rattle.graph_files.specs.declared.listings.Listing.TheVariants.{First, Second}
use Rattle.graph_files.specs.Faults.{then_check, then_lines}
use Rattle.graph_files.specs.Weights.{decimal_of}
use Rattle.graph_files.specs.VertexFiles.{id_of}
use Rattle.id_places.specs.Places.{is_among}

-- two ids may be the ends of an edge where they differ and both are known
abbrev pub joined : (ℕ → Bool) → ℕ → ℕ → Result (ℕ × ℕ) What
joined known u v =
    cond (u == v) (Err SelfLoop)
    (cond (not (known u)) (Err UnknownVertex)
    (cond (not (known v)) (Err UnknownVertex) (Ok (u, v))))

-- the source and the target of an edge, or the fault of their fields
abbrev pub ends_of : (ℕ → Bool) → List ℕ → List ℕ → Result (ℕ × ℕ) What
ends_of known source target =
    then_check (id_of source) (λ u. then_check (id_of target) (λ v. joined known u v))

-- an edge by its ends and its weight
abbrev pub weighted : Result (ℕ × ℕ) What → Result ℕ What → Result Edge What
weighted ends weight =
    then_check ends (λ e. then_check weight (λ w. Ok (record { u = e.0; v = e.1; weight = w })))

-- an edge by the fields of its ends, and by a third field where there is one; it is read where there are weights
abbrev pub edge_with : (ℕ → Bool) → Weights → List ℕ → List ℕ → Option (List ℕ) → Result Edge What
edge_with known Ones source target third = weighted (ends_of known source target) (Ok 1)
edge_with known (Units digits cut) source target None = Err MissingField
edge_with known (Units digits cut) source target (Some field) =
    weighted (ends_of known source target) (decimal_of digits cut field)

-- the edge of a line, or its fault, by the ids that are known, whatever the lines before it
abbrev pub edge_of : (ℕ → Bool) → Weights → List (List ℕ) → Result Edge What
edge_of known weights [] = Err MissingField
edge_of known weights (source ∷ []) = Err MissingField
edge_of known weights (source ∷ target ∷ []) = edge_with known weights source target None
edge_of known weights (source ∷ target ∷ third ∷ []) = edge_with known weights source target (Some third)
edge_of known weights (source ∷ target ∷ third ∷ extra ∷ fields) = Err ExtraField

-- the weight with which an edge from u to v is listed, if it is
abbrev pub listed_weight : List Edge → ℕ → ℕ → Option ℕ
listed_weight [] u v = None
listed_weight (edge ∷ edges) u v = cond ((edge.u == u) && (edge.v == v)) (Some edge.weight) (listed_weight edges u v)

-- it is listed with another weight
abbrev pub is_other : Option ℕ → ℕ → Bool
is_other None weight = false
is_other (Some listed) weight = not (listed == weight)

-- the edge stood on an earlier line: from the same source to the same target, or the other way round with another
-- weight where directions don't count
abbrev pub is_repeated : Kind → List Edge → Edge → Bool
is_repeated Directed listings edge = is_some (listed_weight listings edge.u edge.v)
is_repeated Undirected listings edge =
    is_some (listed_weight listings edge.u edge.v) || is_other (listed_weight listings edge.v edge.u) edge.weight

-- the edge stood on an earlier line the other way round
abbrev pub is_reversed : Kind → List Edge → Edge → Bool
is_reversed Directed listings edge = false
is_reversed Undirected listings edge = is_some (listed_weight listings edge.v edge.u)

-- how many arcs an edge is
abbrev pub arcs_of : Kind → ℕ
arcs_of Directed = 1
arcs_of Undirected = 2

-- what an edge file is read by: the ids of the graph, its kind, what its weights are, and how many vertices and arcs
-- there may be
pub record Rules : Type 0 where
  pub ids : List ℕ
  pub kind : Kind
  pub weights : Weights
  pub limit : ℕ

-- what is known before a line: the edges that the lines before it list, and these without second listings
pub record Before : Type 0 where
  pub listings : List Edge
  pub edges : List Edge

-- how a line lists an edge, or the line's fault: for the first time, or for the second time the other way round
abbrev pub listing_of : Rules → Before → Edge → Result Listing What
listing_of rules before edge =
    cond (is_repeated rules.kind before.listings edge) (Err DuplicateEdge)
    (cond (is_reversed rules.kind before.listings edge) (Ok Second)
    (cond (nat_lt rules.limit (length rules.ids + arcs_of rules.kind * (length before.edges + 1)))
    (Err TooManyRows) (Ok First)))

-- what is known behind a line that lists an edge
abbrev pub behind : Before → Edge → Listing → Before
behind before edge First = record { listings = before.listings ++ edge ∷ []; edges = before.edges ++ edge ∷ [] }
behind before edge Second = record { listings = before.listings ++ edge ∷ []; edges = before.edges }

-- what is known behind a line, or the line's fault
abbrev pub read_line : Rules → Before → List (List ℕ) → Result Before What
read_line rules before fields =
    then_check (edge_of (is_among rules.ids) rules.weights fields)
    (λ edge. then_check (listing_of rules before edge) (λ listing. Ok (behind before edge listing)))

-- the edges of lines behind those of the lines before them, or the fault of the first line that has one
abbrev pub edges_behind : Rules → Before → List FieldLine → Result (List Edge) Fault
edges_behind rules before [] = Ok before.edges
edges_behind rules before (line ∷ lines) =
    then_lines line.number (read_line rules before line.fields) (λ after. edges_behind rules after lines)

-- what an edge file stands for by these rules
abbrev pub edges_of : Rules → List ℕ → Result (List Edge) Fault
edges_of rules text = edges_behind rules (record { listings = []; edges = [] }) (field_lines text)
