-- What a check finds in the rows of a write.
use Rattle.std.proofs.Common.{◌≡◌, ℕ, ◌+◌, ◌-◌, List, [], ◌++◌, refl, ◌∙◌, ap, cond, arith}
use Rattle.std.specs.Prelude.{◌==◌, Bool, true, false, Option, Some, None, is_some}
use Rattle.std.proofs.lemmas.Bool.Decides.{nat_tests}
use Rattle.graph_model.specs.declared.refusal.Cause.{Cause}
use Rattle.graph_model.specs.declared.refusal.Refusal.{Refusal}
use Rattle.graph_model.specs.declared.refusal.Refusal.TheVariants.{SelfLoop, NoVertex}
use Rattle.graph_model.specs.Graph.{Graph, has_vertex, has_arc, weight_of}
use Rattle.graph_model.specs.Refused.{unless_ends}
use Rattle.graph_model.specs.Rows.{value_at, vertex_key, arc_key}
use Rattle.store_model.specs.Check.{combine}
use Rattle.store_model.specs.Stamped.{Stamped}
use Rattle.undo_chain.specs.declared.states.Snapshot.{Snapshot}
use Rattle.undo_chain.specs.States.{Knowledge, Grows}
use Rattle.undo_chain.proofs.ListLemmas.{grows_chain}
use Rattle.version_segment.specs.Checks.{IsChecked}
use Rattle.version_segment.proofs.WalkLemmas.{checked_none, checked_both}

-- ---- what the graph has

-- a vertex's row has a value where the vertex is there
pub seen_vertex : (g : Graph) (v : ℕ) → is_some (value_at g (vertex_key v)) ≡ has_vertex g v
seen_vertex g v = go (has_vertex g v)
  where
    go : (t : Bool) → is_some (cond {A = Option ℕ} t (Some 0) None) ≡ t
    go true = refl
    go false = refl

pub not_zero : (n : ℕ) → (n + 1 == 0) ≡ false
not_zero n = grind (arith, nat_tests)

-- an arc's row has its weight
pub weight_is_value : (g : Graph) (u v : ℕ) → value_at g (arc_key u v) ≡ weight_of g u v
weight_is_value g u v =
    let back : v + 1 - 1 ≡ v = omega arith in
    ap (λ t. cond t (cond (has_vertex g u) (Some 0) None) (weight_of g u (v + 1 - 1))) (not_zero v) ∙ ap (weight_of g u) back

pub seen_arc : (g : Graph) (u v : ℕ) → is_some (value_at g (arc_key u v)) ≡ has_arc g u v
seen_arc g u v = ap is_some (weight_is_value g u v)

-- an edge with two ends is refused for its arc, if at all
pub ends_pass : (g : Graph) (u v : ℕ) (answer : Option Refusal) → ((u == v) ≡ false) × (has_vertex g u ≡ true) × (has_vertex g v ≡ true)
    → unless_ends g u v answer ≡ answer
ends_pass g u v answer ends = λ i. cond (ends.0 i) (Some SelfLoop) (cond (ends.1 i) (cond (ends.2 i) answer (Some (NoVertex v))) (Some (NoVertex u)))

-- ---- who stands against a write

-- what was asked later answers for what was known first
pub checked_on : (old now new : Knowledge) (snapshot : Snapshot) (ps : List Stamped) (cause : Option Cause) → Grows old now → Grows now new
    → IsChecked now new snapshot ps cause → IsChecked old new snapshot ps cause
checked_on old now new snapshot ps cause f g h = checked_both old now new snapshot [] ps None cause f g (checked_none old now snapshot) h

-- three lists of records, asked one behind the other
pub checked_three : (old now one two new : Knowledge) (snapshot : Snapshot) (ps qs rs : List Stamped) (a b c : Option Cause)
    → Grows old now → Grows now one → Grows one two → Grows two new
    → IsChecked now one snapshot ps a → IsChecked one two snapshot qs b → IsChecked two new snapshot rs c
    → IsChecked old new snapshot (ps ++ (qs ++ rs)) (combine a (combine b c))
checked_three old now one two new snapshot ps qs rs a b c f g h k first second third =
    let later = checked_both one two new snapshot qs rs b c h k second third in
    checked_both old one new snapshot ps (qs ++ rs) a (combine b c) (grows_chain old now one f g) (grows_chain one two new h k) (checked_on old now one snapshot ps a f g first) later
