-- Tables of graphs that are written out. A table is its own witness: along each arc its values rise by
-- no more than the arc counts, so no walk is shorter than they say.
use Rattle.std.proofs.Common.{◌≡◌, ℕ, zero, suc, ◌+◌, ◌≤◌, List, [], ◌∷◌, ◌++◌, length, refl, sym, ◌∙◌, ap, subst, cond, arith, inl, inr}
use Rattle.std.specs.Prelude.{Bool, true, false, ◌==◌, ◌&&◌, ◌||◌, not, nat_le, map as list_map, Some, is_some, unwrap_or, IsTrue}
use Rattle.std.specs.List.{filter, list_all}
use Rattle.std.specs.Ordering.{nat_cmp, eq_by_cmp}
use Rattle.std.specs.Cmp.{Equal-is, unsigned_tied}
use Rattle.std.specs.FinMap.Entries.{find}
use Rattle.std.proofs.lemmas.Bool.{and_parts}
use Rattle.std.proofs.lemmas.Bool.Decides.{nat_tests}
use Rattle.graph_model.specs.declared.write.Kind.{Kind}
use Rattle.graph_model.specs.declared.write.Kind.TheVariants.{Directed, Undirected}
use Rattle.graph_model.specs.declared.table.Value.{Value}
use Rattle.graph_model.specs.declared.table.Value.TheVariants.{Number, Infinity}
use Rattle.graph_model.specs.declared.table.Entry.{Entry}
use Rattle.graph_model.specs.Graph.{Graph, arc_cmp, has_vertex, has_arc, weight_of}
use Rattle.graph_model.specs.Walks.{IsWalk, walk_weight, IsUnreached, IsDistance, IsLeastWeight}
use Rattle.graph_model.specs.Components.{are_joined, IsTrail, IsComponent}
use Rattle.graph_model.specs.Labels.{targets, sources, neighbours, most_frequent, label}
use Rattle.graph_model.proofs.TestLemmas.{self_eq, eq_of, either_of}
use Rattle.graph_model.proofs.OrderLemmas.{arcs_exact}
use Rattle.graph_model.proofs.WalkLemmas.{weight_there}
use Rattle.graph_model.proofs.LabelLemmas.{map-same}
use Rattle.graph_model.proofs.EntryLemmas.{Marks, Arcs, HasEntries, vertex_in, weight_in, vertex_at, weight_at, arc_at, vertices_are}
use Rattle.graph_model.proofs.ExampleLemmas.{true_false}

-- the value of a vertex in a table
abbrev number_of : Value → ℕ
number_of (Number n) = n
number_of Infinity = 0

abbrev pub value_in : List Entry → ℕ → ℕ
value_in [] v = 0
value_in (e ∷ es) v = cond (e.vertex == v) (number_of e.value) (value_in es v)

module _ (g : Graph) (vs : Marks) (es : Arcs) (has : HasEntries g vs es) where
  -- ---- arcs

  -- what is found among entries that pass a test passes it
  find_passes : (P : ℕ × ℕ → ℕ → Bool) (xs : Arcs) (q : ℕ × ℕ) (w : ℕ) → list_all (λ x. P x.0 x.1) xs ≡ true → find arc_cmp q xs ≡ Some w → P q w ≡ true
  find_passes P [] q w all found = cc
  find_passes P (x ∷ xs) q w all found =
      let p = and_parts _ _ all in
      elim (eq_by_cmp arc_cmp q x.0) as (λ t. eq_by_cmp arc_cmp q x.0 ≡ t → cond t (Some x.1) (find arc_cmp q xs) ≡ Some w → P q w ≡ true) [
        | true ↦ λ tie h. let weight : x.1 ≡ w = cc in (λ i. P (arcs_exact q x.0 ((Equal-is (arc_cmp q x.0)).0 tie) i) (sym weight i)) ∙ p.0
        | false ↦ λ tie h. find_passes P xs q w p.1 h
      ] refl found

  -- each arc passes a test that all entries pass
  arc_passes : (P : ℕ × ℕ → ℕ → Bool) → list_all (λ x. P x.0 x.1) es ≡ true → (u v w : ℕ) → weight_of g u v ≡ Some w → P (u, v) w ≡ true
  arc_passes P all u v w there = find_passes P es (u, v) w all (sym (weight_at g vs es has u v) ∙ there)

  -- ---- walks that are there

  abbrev pub is_walk_in : ℕ → List ℕ → ℕ → Bool
  is_walk_in a [] b = vertex_in vs a && (a == b)
  is_walk_in a (v ∷ ws) b = vertex_in vs a && (is_some (weight_in es a v) && is_walk_in v ws b)

  walk_at : (a b : ℕ) (ws : List ℕ) → is_walk_in a ws b ≡ true → IsWalk g a ws b
  walk_at a b [] is = let p = and_parts _ _ is in (vertex_at g vs es has a ∙ p.0, eq_of a b p.1)
  walk_at a b (v ∷ ws) is =
      let p = and_parts _ _ is in
      let q = and_parts _ _ p.1 in
      (vertex_at g vs es has a ∙ p.0, arc_at g vs es has a v ∙ q.0, walk_at v b ws q.1)

  abbrev pub walk_weight_in : ℕ → List ℕ → ℕ
  walk_weight_in a [] = 0
  walk_weight_in a (v ∷ ws) = unwrap_or (weight_in es a v) 0 + walk_weight_in v ws

  walk_weight_at : (a : ℕ) (ws : List ℕ) → walk_weight g a ws ≡ walk_weight_in a ws
  walk_weight_at a [] = refl
  walk_weight_at a (v ∷ ws) = λ i. unwrap_or (weight_at g vs es has a v i) 0 + walk_weight_at v ws i

  -- ---- walks that aren't: values that rise by at most one an arc, or by its weight

  no_shorter : (d : ℕ → ℕ) → list_all (λ x. nat_le (d x.0.1) (d x.0.0 + 1)) es ≡ true → (a b : ℕ) (ws : List ℕ) → IsWalk g a ws b → d b ≤ d a + length ws
  no_shorter d all a b [] w = let e : d a ≡ d b = ap d w.1 in omega arith
  no_shorter d all a b (v ∷ ws) w =
      let arc = weight_there (weight_of g a v) w.1 in
      let test : nat_le (d v) (d a + 1) ≡ true = arc_passes (λ q x. nat_le (d q.1) (d q.0 + 1)) all a v arc.0 arc.1 in
      let step : d v ≤ d a + 1 = grind (arith, nat_tests) in
      let rest = no_shorter d all v b ws w.2 in
      omega arith

  pub distance_of : (table : List Entry) → list_all (λ x. nat_le (value_in table x.0.1) (value_in table x.0.0 + 1)) es ≡ true → (root v : ℕ) (ws : List ℕ)
      → value_in table root ≡ 0 → is_walk_in root ws v ≡ true → length ws ≡ value_in table v → IsDistance g root v (value_in table v)
  distance_of table all root v ws at_root walk count = inl (record {
    attained = (ws, walk_at root v ws walk, count);
    least = λ us w. let far = no_shorter (value_in table) all root v us w in omega (arith, far, at_root);
  })

  no_lighter : (d : ℕ → ℕ) → list_all (λ x. nat_le (d x.0.1) (d x.0.0 + x.1)) es ≡ true → (a b : ℕ) (ws : List ℕ) → IsWalk g a ws b → d b ≤ d a + walk_weight g a ws
  no_lighter d all a b [] w = let e : d a ≡ d b = ap d w.1 in omega arith
  no_lighter d all a b (v ∷ ws) w =
      let arc = weight_there (weight_of g a v) w.1 in
      let test : nat_le (d v) (d a + arc.0) ≡ true = arc_passes (λ q x. nat_le (d q.1) (d q.0 + x)) all a v arc.0 arc.1 in
      let step : d v ≤ d a + arc.0 = grind (arith, nat_tests) in
      let weight : unwrap_or (weight_of g a v) 0 ≡ arc.0 = ap (λ x. unwrap_or x 0) arc.1 in
      let rest = no_lighter d all v b ws w.2 in
      omega arith

  pub least_weight_of : (table : List Entry) → list_all (λ x. nat_le (value_in table x.0.1) (value_in table x.0.0 + x.1)) es ≡ true → (root v : ℕ) (ws : List ℕ)
      → value_in table root ≡ 0 → is_walk_in root ws v ≡ true → walk_weight_in root ws ≡ value_in table v → IsLeastWeight g root v (value_in table v)
  least_weight_of table all root v ws at_root walk weight = record {
    attained = (ws, walk_at root v ws walk, walk_weight_at root ws ∙ weight);
    least = λ us w. let far = no_lighter (value_in table) all root v us w in omega (arith, far, at_root);
  }

  -- no walk leads to a vertex that no arc leads to
  pub unreached_of : (x : ℕ) → list_all (λ e. not (e.0.1 == x)) es ≡ true → (root : ℕ) → (root == x) ≡ false → IsUnreached g root x
  unreached_of x none root apart [] w = true_false (sym (self_eq root) ∙ ap (λ q. root == q) w.1 ∙ apart)
  unreached_of x none root apart (v ∷ ws) w = last root v ws w
    where
      last : (a v : ℕ) (ws : List ℕ) → IsWalk g a (v ∷ ws) x → ⊥
      last a v [] w =
          let arc = weight_there (weight_of g a v) w.1 in
          let test : not (v == x) ≡ true = arc_passes (λ q y. not (q.1 == x)) none a v arc.0 arc.1 in
          let e : v ≡ x = w.2.1 in
          grind (arith, nat_tests)
      last a v (u ∷ ws) w = last v u ws w.2

  -- ---- trails

  abbrev pub is_trail_in : ℕ → List ℕ → ℕ → Bool
  is_trail_in a [] b = vertex_in vs a && (a == b)
  is_trail_in a (v ∷ ws) b = vertex_in vs a && ((is_some (weight_in es a v) || is_some (weight_in es v a)) && is_trail_in v ws b)

  joined_at : (u v : ℕ) → are_joined g u v ≡ (is_some (weight_in es u v) || is_some (weight_in es v u))
  joined_at u v = λ i. arc_at g vs es has u v i || arc_at g vs es has v u i

  trail_at : (a b : ℕ) (ws : List ℕ) → is_trail_in a ws b ≡ true → IsTrail g a ws b
  trail_at a b [] is = let p = and_parts _ _ is in (vertex_at g vs es has a ∙ p.0, eq_of a b p.1)
  trail_at a b (v ∷ ws) is =
      let p = and_parts _ _ is in
      let q = and_parts _ _ p.1 in
      (vertex_at g vs es has a ∙ p.0, joined_at a v ∙ q.0, trail_at v b ws q.1)

  -- both ends of each arc have one value, and so has all of a trail
  same_along : (c : ℕ → ℕ) → list_all (λ x. c x.0.0 == c x.0.1) es ≡ true → (a b : ℕ) (ws : List ℕ) → IsTrail g a ws b → (c a ≡ c b) × IsTrue (has_vertex g b)
  same_along c all a b [] t = (ap c t.1, subst (λ x. IsTrue (has_vertex g x)) t.1 t.0)
  same_along c all a b (v ∷ ws) t =
      let rest = same_along c all v b ws t.2 in (
        elim (either_of (has_arc g a v) (has_arc g v a) t.1) as (λ _. c a ≡ c v) [
          | inl there ↦ let arc = weight_there (weight_of g a v) there in eq_of (c a) (c v) (arc_passes (λ q x. c q.0 == c q.1) all a v arc.0 arc.1)
          | inr there ↦ let arc = weight_there (weight_of g v a) there in sym (eq_of (c v) (c a) (arc_passes (λ q x. c q.0 == c q.1) all v a arc.0 arc.1))
        ] ∙ rest.0,
        rest.1,
      )

  -- each vertex passes a test that all marks pass
  mark_passes : (P : ℕ → Bool) (xs : Marks) (v : ℕ) → list_all (λ x. P x.0) xs ≡ true → vertex_in xs v ≡ true → P v ≡ true
  mark_passes P [] v all found = cc
  mark_passes P (x ∷ xs) v all found =
      let p = and_parts _ _ all in
      elim (eq_by_cmp nat_cmp v x.0) as (λ t. eq_by_cmp nat_cmp v x.0 ≡ t → is_some (cond t (Some x.1) (find nat_cmp v xs)) ≡ true → P v ≡ true) [
        | true ↦ λ tie _. ap P (eq_of v x.0 (sym (unsigned_tied v x.0) ∙ tie)) ∙ p.0
        | false ↦ λ tie h. mark_passes P xs v p.1 h
      ] refl found

  pub component_of : (table : List Entry) → list_all (λ x. value_in table x.0.0 == value_in table x.0.1) es ≡ true → list_all (λ x. nat_le (value_in table x.0) x.0) vs ≡ true
      → (v : ℕ) (ws : List ℕ) → is_trail_in v ws (value_in table v) ≡ true → IsComponent g v (value_in table v)
  component_of table all below v ws trail = record {
    reached = (ws, trail_at v (value_in table v) ws trail);
    least = λ b us t.
        let end = same_along (value_in table) all v b us t in
        let test : nat_le (value_in table b) b ≡ true = mark_passes (λ q. nat_le (value_in table q) q) vs b below (sym (vertex_at g vs es has b) ∙ end.1) in
        let le : value_in table b ≤ b = grind (arith, nat_tests) in
        omega (arith, end.0, le);
  }

  -- ---- labels

  abbrev names : List ℕ
  names = list_map (λ (e : ℕ × Unit {0}). e.0) vs

  abbrev targets_in : ℕ → List ℕ
  targets_in v = filter (λ u. is_some (weight_in es v u)) names

  abbrev sources_in : ℕ → List ℕ
  sources_in v = filter (λ u. is_some (weight_in es u v)) names

  abbrev neighbours_in : Kind → ℕ → List ℕ
  neighbours_in Directed v = targets_in v ++ sources_in v
  neighbours_in Undirected v = targets_in v

  abbrev pub label_in : Kind → ℕ → ℕ → ℕ
  label_in kind zero v = v
  label_in kind (suc round) v = most_frequent (label_in kind round v) (list_map (label_in kind round) (neighbours_in kind v))

  targets_at : (v : ℕ) → targets g v ≡ targets_in v
  targets_at v = λ i. filter (λ u. is_some (weight_at g vs es has v u i)) (vertices_are g vs es has i)

  sources_at : (v : ℕ) → sources g v ≡ sources_in v
  sources_at v = λ i. filter (λ u. is_some (weight_at g vs es has u v i)) (vertices_are g vs es has i)

  neighbours_at : (kind : Kind) (v : ℕ) → neighbours kind g v ≡ neighbours_in kind v
  neighbours_at Directed v = λ i. targets_at v i ++ sources_at v i
  neighbours_at Undirected v = targets_at v

  label_at : (kind : Kind) (rounds v : ℕ) → label kind g rounds v ≡ label_in kind rounds v
  label_at kind zero v = refl
  label_at kind (suc round) v =
      λ i. most_frequent (label_at kind round v i) ((ap (list_map (label kind g round)) (neighbours_at kind v) ∙ map-same (label kind g round) (label_in kind round) (label_at kind round) (neighbours_in kind v)) i)

  pub label_value : (kind : Kind) (rounds v : ℕ) → Number (label_in kind rounds v) ≡ Number (label kind g rounds v)
  label_value kind rounds v = ap Number (sym (label_at kind rounds v))
