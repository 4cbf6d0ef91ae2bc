-- What is kept of the lines so far, for looking things up.
use Rattle.std.specs.Prelude.{◌≡◌, ℕ, ◌==◌, ◌-◌, ◌/◌, ◌≤◌, Bool, true, List, [], ◌∷◌, ◌++◌, length, map, drop, All, Result, Ok}
use Rattle.std.specs.List.{IsDistinct}
use Rattle.std.specs.BTreeSet.{BTreeSet, contains}
use Rattle.std.specs.Ordering.{nat_cmp}
use Rattle.graphalytics_io.specs.declared.edges.Edge.{Edge}
use Rattle.graphalytics_io.specs.declared.lines.FieldLine.{FieldLine}
use Rattle.graph_model.specs.declared.write.Kind.{Kind}
use Rattle.graph_files.specs.declared.checks.Checks.{Checks}
use Rattle.graph_files.specs.declared.faultless.Front.{Front}
use Rattle.graph_files.specs.declared.listings.EdgesSoFar.{EdgesSoFar}
use Rattle.graph_files.specs.declared.refusal.What.{What}
use Rattle.id_places.specs.Places.{is_among, pair_in}
use Rattle.graph_files.specs.EdgeFiles.{arcs_of, Rules, edges_behind}

-- the set has these ids
abbrev pub IsSetOf : BTreeSet ℕ → List ℕ → Type 0
IsSetOf set ids = (v : ℕ) → contains nat_cmp set v ≡ is_among ids v

-- every id is known
abbrev pub every_id : ℕ → Bool
every_id id = true

-- the lines have these items, each checked by itself alone
abbrev pub AreListed : {X : Type 0} → (List (List ℕ) → Result X What) → List FieldLine → List X → Type 0
AreListed item [] [] = Unit {0}
AreListed item [] (x ∷ xs) = ⊥
AreListed item (line ∷ lines) [] = ⊥
AreListed item (line ∷ lines) (x ∷ xs) = (item line.fields ≡ Ok x) × AreListed item lines xs

-- the lines at the front have these edges, each by itself, and where it is whole these are all lines
pub record IsFront (item : List (List ℕ) → Result Edge What) (all : List FieldLine) (front : Front) : Type 0 where
  pub lines : List FieldLine
  pub rest : List FieldLine
  pub parts : all ≡ lines ++ rest
  pub listed : AreListed item lines front.edges
  pub whole : front.is_whole ≡ true → rest ≡ []

-- edges between the ids, of which none is listed twice, at most so many
pub record AreNew (kind : Kind) (ids : List ℕ) (most : ℕ) (edges : List Edge) : Type 0 where
  pub sources : All (λ edge. is_among ids edge.u ≡ true) edges
  pub targets : All (λ edge. is_among ids edge.v ≡ true) edges
  pub differ : IsDistinct (λ (x y : ℕ). x == y) (map (pair_in kind ids) edges)
  pub few : length edges ≤ most

-- the lines stand for what those behind the listings so far stand for
abbrev pub GoesOn : Rules → List FieldLine → EdgesSoFar → Type 0
GoesOn rules lines reading =
    edges_behind rules (record { listings = []; edges = [] }) lines
    ≡ edges_behind rules (record { listings = reading.listings; edges = reading.edges })
    (drop (length reading.listings) lines)

-- the rules of a file, and what its lines are checked against
pub record IsCheckedBy (rules : Rules) (checks : Checks) : Type 0 where
  pub ids : (v : ℕ) → is_among checks.known v ≡ is_among rules.ids v
  pub kind : rules.kind ≡ checks.kind
  pub weights : rules.weights ≡ checks.weights
  pub most : checks.most ≡ (rules.limit - length rules.ids) / arcs_of rules.kind
