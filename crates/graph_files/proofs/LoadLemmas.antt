-- No write of a load is refused, each is within its limits, and so a journal of it is legal, for both kinds of graph.
use Rattle.std.proofs.Common.{◌≡◌, ◌≢◌, ℕ, zero, suc, ◌≤◌, List, [], ◌∷◌, ◌++◌, map, get_or, refl, sym, ◌∙◌, ap, subst, cond, arith, All, AllPairs, Contains, append-nil}
use Rattle.std.specs.Prelude.{Bool, true, false, ◌==◌, Some, None, is_some, min, max, slice_get}
use Rattle.std.specs.List.{AllByRecursion}
use Rattle.std.specs.Ordering.{nat_cmp}
use Rattle.std.specs.FinMap as fin_map
use Rattle.std.proofs.lemmas.Bool.Decides.{nat_tests}
use Rattle.std.proofs.lemmas.List.Elements.{All-head, All-tail, All-cons, All-map, All-contains, recursion_from_All}
use Rattle.graph_model.specs.declared.limits.TheConstants.{MAX_ID}
use Rattle.graph_model.specs.declared.write.Kind.{Kind}
use Rattle.graph_model.specs.declared.write.Kind.TheVariants.{Directed, Undirected}
use Rattle.graph_model.specs.declared.write.Write.{Write}
use Rattle.graph_model.specs.declared.write.Write.TheVariants.{AddVertex}
use Rattle.graph_model.specs.declared.refusal.Refusal.TheVariants.{SelfLoop, NoVertex, VertexExists, EdgeExists}
use Rattle.graph_model.specs.declared.journal.Commit.{Commit}
use Rattle.graph_model.specs.Graph.{Graph, arc_cmp, empty_graph, has_vertex, has_arc, weight_of, apply, apply_all, HasBothEnds}
use Rattle.graph_model.specs.Refused.{refused, AllAllowed, IsWithinLimits}
use Rattle.graph_model.specs.History.{graph_at}
use Rattle.graph_model.specs.Legal.{IsLegal, IsLegalCommit}
use Rattle.graph_model.proofs.GraphLemmas.{covers, has_vertex-apply, weight-apply}
use Rattle.graph_model.proofs.WriteLemmas.{keeps_ends}
use Rattle.graphalytics_io.specs.declared.edges.Edge.{Edge}
use Rattle.graph_model.specs.Loading.{journal_of}
use Rattle.graphalytics_io.specs.Load.{added_edge, load_of}
use Rattle.graph_files.specs.Load.{ends_by, IsLoadable, graph_of}

-- of pairs, those of the first item with each later one
pairs_head : {X : Type 0} (R : X → X → Type 0) (x : X) (xs : List X) → AllPairs R (x ∷ xs) → All (R x) xs
pairs_head R x xs each = λ k d inside. each 0 (suc k) d (omega arith) (omega arith)

-- of pairs, those behind the first item
pairs_tail : {X : Type 0} (R : X → X → Type 0) (x : X) (xs : List X) → AllPairs R (x ∷ xs) → AllPairs R xs
pairs_tail R x xs each = λ i j d before inside. each (suc i) (suc j) d (omega arith) (omega arith)

-- two facts of each item give a third
all_both : {X : Type 0} (P Q R : X → Type 0) → ((x : X) → P x → Q x → R x) → (xs : List X) → All P xs → All Q xs → All R xs
all_both P Q R each xs p q = λ k d inside. each (get_or xs k d) (p k d inside) (q k d inside)

-- writes that are allowed, and others that are allowed on what those leave, are allowed together
allowed-append : (kind : Kind) (xs ys : List Write) (g : Graph) → AllAllowed kind g xs → AllAllowed kind (apply_all kind g xs) ys → AllAllowed kind g (xs ++ ys)
allowed-append kind [] ys g first second = second
allowed-append kind (x ∷ xs) ys g first second = (first.0, allowed-append kind xs ys (apply kind g x) first.1 second)

apart : (u v : ℕ) → u ≢ v → (u == v) ≡ false
apart u v other = grind (arith, nat_tests)

-- an edge covers an arc of another only where their ends are the same
other_arc : (kind : Kind) (e f : Edge) → ends_by kind e ≢ ends_by kind f → covers kind e.u e.v f.u f.v ≡ false
other_arc Directed e f differ =
    elim (covers Directed e.u e.v f.u f.v) as (λ s. covers Directed e.u e.v f.u f.v ≡ s → s ≡ false) [
      | true ↦ λ same. absurd (differ (λ i. (same_source e.u e.v f.u f.v same i, same_target e.u e.v f.u f.v same i)))
      | false ↦ λ _. refl
    ] refl
  where
    same_source : (u v a b : ℕ) → covers Directed u v a b ≡ true → u ≡ a
    same_source u v a b same = grind (arith, nat_tests, same)

    same_target : (u v a b : ℕ) → covers Directed u v a b ≡ true → v ≡ b
    same_target u v a b same = grind (arith, nat_tests, same)
other_arc Undirected e f differ =
    elim (covers Undirected e.u e.v f.u f.v) as (λ s. covers Undirected e.u e.v f.u f.v ≡ s → s ≡ false) [
      | true ↦ λ same. absurd (differ (λ i. (same_min e.u e.v f.u f.v same i, same_max e.u e.v f.u f.v same i)))
      | false ↦ λ _. refl
    ] refl
  where
    same_min : (u v a b : ℕ) → covers Undirected u v a b ≡ true → min u v ≡ min a b
    same_min u v a b same = grind (arith, nat_tests)

    same_max : (u v a b : ℕ) → covers Undirected u v a b ≡ true → max u v ≡ max a b
    same_max u v a b same = grind (arith, nat_tests)

-- writes within their limits behind others
within-append : (xs ys : List Write) → AllByRecursion IsWithinLimits xs → AllByRecursion IsWithinLimits ys → AllByRecursion IsWithinLimits (xs ++ ys)
within-append [] ys first second = second
within-append (x ∷ xs) ys first second = (first.0, within-append xs ys first.1 second)

-- the empty graph has no vertex
no_vertex : (v : ℕ) → has_vertex empty_graph v ≡ false
no_vertex v = ap is_some (fin_map.get-empty nat_cmp v)

-- nor has it an arc
no_arc : (u v : ℕ) → weight_of empty_graph u v ≡ None
no_arc u v = fin_map.get-empty arc_cmp (u, v)

-- allowed writes keep both ends of each arc
all_keep_ends : (kind : Kind) (ws : List Write) (g : Graph) → AllAllowed kind g ws → HasBothEnds g → HasBothEnds (apply_all kind g ws)
all_keep_ends kind [] g allowed ends = ends
all_keep_ends kind (w ∷ ws) g allowed ends = all_keep_ends kind ws (apply kind g w) allowed.1 (keeps_ends kind g w allowed.0 ends)

empty_ends : HasBothEnds empty_graph
empty_ends u v arc = let wrong : true ≡ false = sym arc ∙ ap is_some (no_arc u v) in cc

abbrev commit_of : List Write → Commit
commit_of load = record { stamp = 1; start = 0; by = record { job = 0; number = 1 }; writes = load }

-- a list of one commit has no other
only_one : (c : Commit) (i : ℕ) (d : Commit) → slice_get (c ∷ []) i ≡ Some d → (i ≡ 0) × (c ≡ d)
only_one c zero d at = (refl, cc)
only_one c (suc i) d at = cc

module _ (kind : Kind) where
  -- the graph doesn't have the vertex
  abbrev IsNew : Graph → ℕ → Type 0
  IsNew g v = has_vertex g v ≡ false

  -- a vertex that is new stays so where another is added
  still_new : (g : Graph) (v w : ℕ) → IsNew g w → v ≢ w → IsNew (apply kind g (AddVertex v)) w
  still_new g v w new other = has_vertex-apply kind g (AddVertex v) w ∙ (λ i. cond (differ w v other i) true (new i))
    where
      differ : (w v : ℕ) → v ≢ w → (w == v) ≡ false
      differ w v other = grind (arith, nat_tests)

  -- vertices that are new and that differ can be added
  vertices_allowed : (ids : List ℕ) (g : Graph) → All (IsNew g) ids → AllPairs (λ v w. v ≢ w) ids → AllAllowed kind g (map AddVertex ids)
  vertices_allowed [] g new distinct = tt
  vertices_allowed (v ∷ ids) g new distinct =
      let rest = all_both (IsNew g) (λ w. v ≢ w) (IsNew (apply kind g (AddVertex v))) (still_new g v) ids (All-tail (IsNew g) v ids new) (pairs_head (λ v w. v ≢ w) v ids distinct) in
      (ap (λ s. cond s (Some VertexExists) None) (All-head (IsNew g) v ids new), vertices_allowed ids (apply kind g (AddVertex v)) rest (pairs_tail (λ v w. v ≢ w) v ids distinct))

  -- a vertex stays where others are added
  vertex_stays : (ids : List ℕ) (g : Graph) (v : ℕ) → has_vertex g v ≡ true → has_vertex (apply_all kind g (map AddVertex ids)) v ≡ true
  vertex_stays [] g v there = there
  vertex_stays (x ∷ ids) g v there = vertex_stays ids (apply kind g (AddVertex x)) v (has_vertex-apply kind g (AddVertex x) v ∙ either (v == x) (has_vertex g v) there)
    where
      either : (s t : Bool) → t ≡ true → cond s true t ≡ true
      either true t e = refl
      either false t e = e

  -- each vertex that is added is there
  vertex_added : (ids : List ℕ) (g : Graph) → All (λ v. has_vertex (apply_all kind g (map AddVertex ids)) v ≡ true) ids
  vertex_added [] g = λ k d inside. absurd (omega arith)
  vertex_added (x ∷ ids) g =
      let h = apply kind g (AddVertex x) in
      let here : has_vertex h x ≡ true = has_vertex-apply kind g (AddVertex x) x ∙ ap (λ s. cond s true (has_vertex g x)) (self_eq x) in
      All-cons (λ v. has_vertex (apply_all kind h (map AddVertex ids)) v ≡ true) x ids (vertex_stays ids h x here) (vertex_added ids h)
    where
      self_eq : (n : ℕ) → (n == n) ≡ true
      self_eq n = grind (arith, nat_tests)

  -- vertices that are added change no arc
  pub no_arcs_yet : (ids : List ℕ) (g : Graph) (u v : ℕ) → weight_of (apply_all kind g (map AddVertex ids)) u v ≡ weight_of g u v
  no_arcs_yet [] g u v = refl
  no_arcs_yet (x ∷ ids) g u v = no_arcs_yet ids (apply kind g (AddVertex x)) u v

  -- the graph has both ends of the edge, which differ, and no arc between them
  record IsAddable (g : Graph) (edge : Edge) : Type 0 where
    source : has_vertex g edge.u ≡ true
    target : has_vertex g edge.v ≡ true
    no_loop : edge.u ≢ edge.v
    absent : has_arc g edge.u edge.v ≡ false

  -- such an edge is not refused
  addable : (g : Graph) (edge : Edge) → IsAddable g edge → refused g (added_edge edge) ≡ None
  addable g edge is = (λ i. cond (apart edge.u edge.v is.no_loop i) (Some SelfLoop) (cond (is.source i) (cond (is.target i) (cond (is.absent i) (Some EdgeExists) None) (Some (NoVertex edge.v))) (Some (NoVertex edge.u))))

  -- nor is it once another edge is added
  still_addable : (g : Graph) (e f : Edge) → IsAddable g f → ends_by kind e ≢ ends_by kind f → IsAddable (apply kind g (added_edge e)) f
  still_addable g e f is differ = record {
    source = has_vertex-apply kind g (added_edge e) f.u ∙ is.source;
    target = has_vertex-apply kind g (added_edge e) f.v ∙ is.target;
    no_loop = is.no_loop;
    absent = ap is_some (weight-apply kind g (added_edge e) f.u f.v ∙ ap (λ s. cond s (Some e.weight) (weight_of g f.u f.v)) (other_arc kind e f differ)) ∙ is.absent;
  }

  -- edges that can be added and that differ can be added one after the other
  edges_allowed : (edges : List Edge) (g : Graph) → All (IsAddable g) edges → AllPairs (λ a b. ends_by kind a ≢ ends_by kind b) edges → AllAllowed kind g (map added_edge edges)
  edges_allowed [] g each distinct = tt
  edges_allowed (e ∷ edges) g each distinct =
      let rest = all_both (IsAddable g) (λ f. ends_by kind e ≢ ends_by kind f) (IsAddable (apply kind g (added_edge e))) (still_addable g e) edges (All-tail (IsAddable g) e edges each) (pairs_head (λ a b. ends_by kind a ≢ ends_by kind b) e edges distinct) in
      (addable g e (All-head (IsAddable g) e edges each), edges_allowed edges (apply kind g (added_edge e)) rest (pairs_tail (λ a b. ends_by kind a ≢ ends_by kind b) e edges distinct))

  -- the graph of the vertices alone
  abbrev pub vertices_alone : List ℕ → Graph
  vertices_alone ids = apply_all kind empty_graph (map AddVertex ids)

  module _ (ids : List ℕ) (edges : List Edge) (loadable : IsLoadable kind ids edges) where
    -- the vertices can be added to the empty graph
    pub first_allowed : AllAllowed kind empty_graph (map AddVertex ids)
    first_allowed = vertices_allowed ids empty_graph (λ k d inside. no_vertex (get_or ids k d)) loadable.distinct

    -- the edges can be added behind the vertices
    pub then_allowed : AllAllowed kind (vertices_alone ids) (map added_edge edges)
    then_allowed =
        edges_allowed edges (vertices_alone ids) (λ k d inside.
        let edge = get_or edges k d in
        let among : (v : ℕ) → Contains ids v → has_vertex (vertices_alone ids) v ≡ true = λ v there. All-contains (λ v. has_vertex (vertices_alone ids) v ≡ true) ids v (vertex_added ids empty_graph) there in
        record {
          source = among edge.u (loadable.known k d inside).0;
          target = among edge.v (loadable.known k d inside).1;
          no_loop = loadable.no_loops k d inside;
          absent = ap is_some (no_arcs_yet ids empty_graph edge.u edge.v ∙ no_arc edge.u edge.v);
        }) loadable.distinct_edges

    -- no write of a load is refused
    pub load_allowed : AllAllowed kind empty_graph (load_of ids edges)
    load_allowed = allowed-append kind (map AddVertex ids) (map added_edge edges) empty_graph first_allowed then_allowed

    -- the ends of each edge are within their limit, as the ids are
    pub ends_in_range : All (λ edge. (edge.u ≤ MAX_ID) × (edge.v ≤ MAX_ID)) edges
    ends_in_range = λ k d inside.
        let known = loadable.known k d inside in
        (All-contains (λ v. v ≤ MAX_ID) ids (get_or edges k d).u loadable.in_range known.0, All-contains (λ v. v ≤ MAX_ID) ids (get_or edges k d).v loadable.in_range known.1)

    -- each write of a load is within its limits
    pub load_within : AllByRecursion IsWithinLimits (load_of ids edges)
    load_within =
        within-append (map AddVertex ids) (map added_edge edges)
        (recursion_from_All IsWithinLimits (map AddVertex ids) (All-map IsWithinLimits AddVertex ids loadable.in_range))
        (recursion_from_All IsWithinLimits (map added_edge edges) (All-map IsWithinLimits added_edge edges (λ k d inside.
        let within = ends_in_range k d inside in
        (within.0, within.1, loadable.weights k d inside))))

  -- the load stands alone in its journal, or there is none
  pub load_legal : (load : List Write) → AllAllowed kind empty_graph load → AllByRecursion IsWithinLimits load → IsLegal kind (journal_of load)
  load_legal [] allowed within = record {
    each = λ i c at. cc;
    names = λ i j c d at_i at_j same. cc;
    apart = λ i j c d before at_i at_j clash. cc;
    ends = λ stamp inside. nothing_committed stamp;
  }
    where
      nothing_committed : (stamp : ℕ) → HasBothEnds (graph_at kind [] stamp)
      nothing_committed zero = empty_ends
      nothing_committed (suc stamp) = empty_ends
  load_legal (w ∷ ws) allowed within = record {
    each = λ i c at.
        let one = only_one (commit_of (w ∷ ws)) i c at in
        subst (λ j. IsLegalCommit kind (journal_of (w ∷ ws)) j c) (sym one.0) (subst (IsLegalCommit kind (journal_of (w ∷ ws)) 0) one.1 (record { stamped = refl; started = omega arith; wrote = omega arith; allowed = allowed; within = within }));
    names = λ i j c d at_i at_j same. (only_one (commit_of (w ∷ ws)) i c at_i).0 ∙ sym (only_one (commit_of (w ∷ ws)) j d at_j).0;
    apart = λ i j c d before at_i at_j clash. absurd (omega (arith, (only_one (commit_of (w ∷ ws)) i c at_i).0, (only_one (commit_of (w ∷ ws)) j d at_j).0));
    ends = ends_at;
  }
    where
      ends_at : (stamp : ℕ) → stamp ≤ 1 → HasBothEnds (graph_at kind (journal_of (w ∷ ws)) stamp)
      ends_at zero inside = empty_ends
      ends_at (suc zero) inside = subst (λ (load : List Write). HasBothEnds (graph_of kind load)) (sym (append-nil (w ∷ ws))) (all_keep_ends kind (w ∷ ws) empty_graph allowed empty_ends)
      ends_at (suc (suc stamp)) inside = absurd (omega arith)
