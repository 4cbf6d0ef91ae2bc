-- What each view has: symmetry where edges have no direction, both ends of each arc, no loops, ids and weights within limits.
use Rattle.std.proofs.Common.{◌≡◌, ℕ, ◌≤◌, List, [], ◌∷◌, length, refl, sym, ◌∙◌, ap, cond, arith}
use Rattle.std.specs.Prelude.{true, false, ◌==◌, Option, Some, None, is_some, take}
use Rattle.std.specs.List.{AllByRecursion}
use Rattle.std.specs.Ordering.{nat_cmp}
use Rattle.std.specs.FinMap as fin_map
use Rattle.std.proofs.lemmas.Bool.Decides.{nat_tests}
use Rattle.graph_model.specs.declared.limits.TheConstants.{MAX_ID, MAX_WEIGHT}
use Rattle.graph_model.specs.declared.write.Kind.{Kind}
use Rattle.graph_model.specs.declared.write.Kind.TheVariants.{Directed, Undirected}
use Rattle.graph_model.specs.declared.write.Write.{Write}
use Rattle.graph_model.specs.declared.write.Write.TheVariants.{AddVertex, DropVertex, AddEdge, SetEdge, DropEdge}
use Rattle.graph_model.specs.declared.journal.Commit.{Commit}
use Rattle.graph_model.specs.Graph.{Graph, arc_cmp, empty_graph, has_vertex, weight_of, apply, apply_all, HasBothEnds, HasNoLoops, IsBounded, IsSymmetric}
use Rattle.graph_model.specs.Refused.{refused, AllAllowed, IsWithinLimits}
use Rattle.graph_model.specs.History.{graph_at, view, writes_of}
use Rattle.graph_model.specs.Legal.{IsLegal}
use Rattle.graph_model.proofs.TestLemmas.{eq_of}
use Rattle.graph_model.proofs.GraphLemmas.{covers, is_about, leaves_vertex, is_about_arc, leaves_weight, has_vertex-apply, weight-apply}
use Rattle.graph_model.proofs.WriteLemmas.{keeps_symmetric, allowed_ends}
use Rattle.graph_model.proofs.HistoryLemmas.{ends_after}
use Rattle.graph_model.proofs.SerialLemmas.{graph_kept, legal_serial}

-- ---- symmetry

-- writes without direction keep a graph symmetric
pub all_symmetric : (g : Graph) (ws : List Write) → IsSymmetric g → IsSymmetric (apply_all Undirected g ws)
all_symmetric g [] same = same
all_symmetric g (w ∷ ws) same = all_symmetric (apply Undirected g w) ws (keeps_symmetric g w same)

-- an undirected graph that writes make of the empty one is symmetric
pub made_symmetric : (ws : List Write) → IsSymmetric (apply_all Undirected empty_graph ws)
made_symmetric ws = all_symmetric empty_graph ws (λ u v. fin_map.get-empty arc_cmp (u, v) ∙ sym (fin_map.get-empty arc_cmp (v, u)))

-- ---- limits

id_limit : (w : Write) (q : ℕ) → IsWithinLimits w → is_about w q ≡ true → q ≤ MAX_ID
id_limit (AddVertex v) q limit e = omega (arith, eq_of q v e, limit)
id_limit (DropVertex v) q limit e = omega (arith, eq_of q v e, limit)
id_limit (AddEdge u v weight) q limit e = cc
id_limit (SetEdge u v weight) q limit e = cc
id_limit (DropEdge u v) q limit e = cc

weight_limit : (w : Write) (x : ℕ) → IsWithinLimits w → leaves_weight w ≡ Some x → x ≤ MAX_WEIGHT
weight_limit (AddVertex v) x limit e = cc
weight_limit (DropVertex v) x limit e = cc
weight_limit (AddEdge u v weight) x limit e = let same : weight ≡ x = cc in omega (arith, same, limit.2)
weight_limit (SetEdge u v weight) x limit e = let same : weight ≡ x = cc in omega (arith, same, limit.2)
weight_limit (DropEdge u v) x limit e = cc

-- a write within the limits keeps a graph within them
pub keeps_bounded : (kind : Kind) (g : Graph) (w : Write) → IsWithinLimits w → IsBounded g → IsBounded (apply kind g w)
keeps_bounded kind g w limit is = record {
  ids = λ v there.
      elim (is_about w v) as (λ s. is_about w v ≡ s → cond s (leaves_vertex w) (has_vertex g v) ≡ true → v ≤ MAX_ID) [
        | true ↦ λ e _. id_limit w v limit e
        | false ↦ λ _ old. is.ids v old
      ] refl (sym (has_vertex-apply kind g w v) ∙ there);
  weights = λ u v weight there.
      elim (is_about_arc kind w u v) as (λ s. cond s (leaves_weight w) (weight_of g u v) ≡ Some weight → weight ≤ MAX_WEIGHT) [
        | true ↦ λ e. weight_limit w weight limit e
        | false ↦ λ old. is.weights u v weight old
      ] (sym (weight-apply kind g w u v) ∙ there);
}

-- so do a list of them
pub all_bounded : (kind : Kind) (g : Graph) (ws : List Write) → AllByRecursion IsWithinLimits ws → IsBounded g → IsBounded (apply_all kind g ws)
all_bounded kind g [] limits is = is
all_bounded kind g (w ∷ ws) limits is = all_bounded kind (apply kind g w) ws limits.1 (keeps_bounded kind g w limits.0 is)

-- the empty graph is within the limits
pub empty_bounded : IsBounded empty_graph
empty_bounded = record {
  ids = λ v there. let e : true ≡ false = sym there ∙ ap is_some (fin_map.get-empty nat_cmp v) in cc;
  weights = λ u v weight there. let e : ◌≡◌ {A = Option ℕ} (Some weight) None = sym there ∙ fin_map.get-empty arc_cmp (u, v) in cc;
}

-- ---- loops

loop_of : (kind : Kind) (u v a : ℕ) → (u == v) ≡ false → covers kind u v a a ≡ false
loop_of Directed u v a apart = grind (arith, nat_tests)
loop_of Undirected u v a apart = grind (arith, nat_tests)

-- an allowed write makes no loop
pub keeps_no_loops : (kind : Kind) (g : Graph) (w : Write) → refused g w ≡ None → HasNoLoops g → HasNoLoops (apply kind g w)
keeps_no_loops kind g (AddVertex v) is none a = none a
keeps_no_loops kind g (DropVertex v) is none a = none a
keeps_no_loops kind g (AddEdge u v weight) is none a =
    ap is_some (weight-apply kind g (AddEdge u v weight) a a ∙ ap (λ s. cond s (Some weight) (weight_of g a a)) (loop_of kind u v a (allowed_ends g u v _ is).0)) ∙ none a
keeps_no_loops kind g (SetEdge u v weight) is none a =
    ap is_some (weight-apply kind g (SetEdge u v weight) a a ∙ ap (λ s. cond s (Some weight) (weight_of g a a)) (loop_of kind u v a (allowed_ends g u v _ is).0)) ∙ none a
keeps_no_loops kind g (DropEdge u v) is none a =
    ap is_some (weight-apply kind g (DropEdge u v) a a ∙ ap (λ s. cond s None (weight_of g a a)) (loop_of kind u v a (allowed_ends g u v _ is).0)) ∙ none a

-- allowed writes make none
pub all_no_loops : (kind : Kind) (g : Graph) (ws : List Write) → AllAllowed kind g ws → HasNoLoops g → HasNoLoops (apply_all kind g ws)
all_no_loops kind g [] are none = none
all_no_loops kind g (w ∷ ws) are none = all_no_loops kind (apply kind g w) ws are.1 (keeps_no_loops kind g w are.0 none)

-- ---- views of a legal journal

module _ (kind : Kind) (journal : List Commit) (start : ℕ) (own : List Write) (legal : IsLegal kind journal) (within : start ≤ length journal) where
  -- a view is within the limits
  pub view_bounded : AllByRecursion IsWithinLimits own → IsBounded (view kind journal start own)
  view_bounded limits =
      all_bounded kind (graph_at kind journal start) own limits
      (graph_kept kind journal IsBounded empty_bounded (λ i c at is. all_bounded kind (graph_at kind journal i) c.writes (legal.each i c at).within is) start within)

  -- it has no loops
  pub view_no_loops : AllAllowed kind (graph_at kind journal start) own → HasNoLoops (view kind journal start own)
  view_no_loops allowed =
      all_no_loops kind (graph_at kind journal start) own allowed
      (graph_kept kind journal HasNoLoops (λ v. ap is_some (fin_map.get-empty arc_cmp (v, v)))
      (λ i c at none. all_no_loops kind (graph_at kind journal i) c.writes (legal_serial kind journal legal i c at) none) start within)

  -- both ends of its arcs are vertices
  pub view_ends : AllAllowed kind (graph_at kind journal start) own → HasBothEnds (view kind journal start own)
  view_ends allowed = ends_after kind (graph_at kind journal start) own allowed (legal.ends start within)

-- and without direction it is symmetric
pub view_symmetric : (journal : List Commit) (start : ℕ) (own : List Write) → IsSymmetric (view Undirected journal start own)
view_symmetric journal start own = all_symmetric (graph_at Undirected journal start) own (made_symmetric (writes_of (take start journal)))
