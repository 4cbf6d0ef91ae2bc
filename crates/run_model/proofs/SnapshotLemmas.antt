-- Ids and weights of a snapshot are within their limits, and so its vertices and arcs can be counted.
use Rattle.std.proofs.Common.{◌≡◌, ℕ, ◌+◌, ◌-◌, ◌*◌, ◌<◌, ◌≤◌, ⊎_elim, List, [], ◌∷◌, length, slice_get, cond, Some, None, refl, sym, ap, ◌∙◌, subst, arith}
use Rattle.std.specs.Prelude.{true, false, ◌==◌, map, take, Option, is_some}
use Rattle.std.specs.List.{AllByRecursion}
use Rattle.std.specs.Ordering.{nat_cmp}
use Rattle.std.specs.declared.cmp.Ordering.TheVariants.{Less}
use Rattle.std.specs.Cmp.{nat_cmp_total}
use Rattle.std.specs.FinMap as fin_map
use Rattle.std.proofs.lemmas.Bool.{cases_order, ne_eqb}
use Rattle.std.proofs.lemmas.Bool.Decides.{nat_tests}
use Rattle.std.proofs.lemmas.List.{length-map}
use Rattle.graph_model.specs.declared.limits.TheConstants.{MAX_ID, MAX_WEIGHT}
use Rattle.graph_model.specs.declared.write.Kind.{Kind}
use Rattle.graph_model.specs.declared.write.Write.{Write}
use Rattle.graph_model.specs.declared.write.Write.TheVariants.{AddVertex, DropVertex, AddEdge, SetEdge, DropEdge}
use Rattle.graph_model.specs.declared.journal.Commit.{Commit}
use Rattle.graph_model.specs.declared.row.Key.{Key}
use Rattle.graph_model.specs.declared.row.Row.{Row}
use Rattle.graph_model.specs.Graph.{Graph, arc_cmp, empty_graph, has_vertex, weight_of, vertices_of, apply, apply_all}
use Rattle.graph_model.specs.Refused.{IsWithinLimits}
use Rattle.graph_model.specs.History.{writes_of, graph_at, view}
use Rattle.graph_model.specs.Rows.{is_below, is_between, rows, value_at}
use Rattle.graph_model.proofs.GraphLemmas.{covers, is_about, leaves_vertex, is_about_arc, leaves_weight, has_vertex-apply, weight-apply}
use Rattle.graph_model.proofs.OrderLemmas.{arcs_total}
use Rattle.graph_model.proofs.RowLemmas.{rows_rise_between, row_is_between}
use Rattle.graph_model.proofs.SortedLemmas.{true_from_T, map_at, rises, found}
use Rattle.graph_model.proofs.WriteLemmas.{covers_ends}
use Rattle.run_model.specs.Answering.{targets_of}
use Rattle.run_model.proofs.ListLemmas.{apart_short, all_from_places, all_on, all_taken}

-- ---- what writes keep

-- ids and weights are within their limits
pub record IsSmall (g : Graph) : Type 0 where
  pub ids : (v : ℕ) → has_vertex g v ≡ true → v ≤ MAX_ID
  pub arcs : (u v weight : ℕ) → weight_of g u v ≡ Some weight → (u ≤ MAX_ID) × (v ≤ MAX_ID) × (weight ≤ MAX_WEIGHT)

same_number : (m n : ℕ) → (m == n) ≡ true → m ≡ n
same_number m n e = grind (arith, nat_tests)

id_limit : (w : Write) (q : ℕ) → IsWithinLimits w → is_about w q ≡ true → q ≤ MAX_ID
id_limit (AddVertex v) q limit e = omega (arith, same_number q v e, limit)
id_limit (DropVertex v) q limit e = omega (arith, same_number q v e, limit)
id_limit (AddEdge u v weight) q limit e = cc
id_limit (SetEdge u v weight) q limit e = cc
id_limit (DropEdge u v) q limit e = cc

ends_limit : (kind : Kind) (u v a b : ℕ) → u ≤ MAX_ID → v ≤ MAX_ID → covers kind u v a b ≡ true → (a ≤ MAX_ID) × (b ≤ MAX_ID)
ends_limit kind u v a b small_u small_v e = ⊎_elim
    (λ same. (subst (λ n. n ≤ MAX_ID) (sym same.0) small_u, subst (λ n. n ≤ MAX_ID) (sym same.1) small_v))
    (λ turned. (subst (λ n. n ≤ MAX_ID) (sym turned.0) small_v, subst (λ n. n ≤ MAX_ID) (sym turned.1) small_u))
    (covers_ends kind u v a b e)

weight_limit : (m x : ℕ) → m ≤ MAX_WEIGHT → Some m ≡ Some x → x ≤ MAX_WEIGHT
weight_limit m x small e = let same : m ≡ x = cc in omega arith

arc_limit : (kind : Kind) (w : Write) (a b x : ℕ) → IsWithinLimits w → is_about_arc kind w a b ≡ true → leaves_weight w ≡ Some x → (a ≤ MAX_ID) × (b ≤ MAX_ID) × (x ≤ MAX_WEIGHT)
arc_limit kind (AddVertex v) a b x limit e left = cc
arc_limit kind (DropVertex v) a b x limit e left = cc
arc_limit kind (AddEdge u v weight) a b x limit e left =
    let ends = ends_limit kind u v a b limit.0 limit.1 e in (ends.0, ends.1, weight_limit weight x limit.2 left)
arc_limit kind (SetEdge u v weight) a b x limit e left =
    let ends = ends_limit kind u v a b limit.0 limit.1 e in (ends.0, ends.1, weight_limit weight x limit.2 left)
arc_limit kind (DropEdge u v) a b x limit e left = cc

keeps_small : (kind : Kind) (g : Graph) (w : Write) → IsWithinLimits w → IsSmall g → IsSmall (apply kind g w)
keeps_small kind g w limit small = record {
  ids = λ v there.
      elim (is_about w v) as (λ t. is_about w v ≡ t → cond t (leaves_vertex w) (has_vertex g v) ≡ true → v ≤ MAX_ID) [
        | true ↦ λ e _. id_limit w v limit e
        | false ↦ λ _ old. small.ids v old
      ] refl (sym (has_vertex-apply kind g w v) ∙ there);
  arcs = λ u v weight there.
      elim (is_about_arc kind w u v) as (λ t. is_about_arc kind w u v ≡ t → cond t (leaves_weight w) (weight_of g u v) ≡ Some weight
      → (u ≤ MAX_ID) × (v ≤ MAX_ID) × (weight ≤ MAX_WEIGHT)) [
        | true ↦ λ e left. arc_limit kind w u v weight limit e left
        | false ↦ λ _ old. small.arcs u v weight old
      ] refl (sym (weight-apply kind g w u v) ∙ there);
}

all_keep_small : (kind : Kind) (g : Graph) (ws : List Write) → AllByRecursion IsWithinLimits ws → IsSmall g → IsSmall (apply_all kind g ws)
all_keep_small kind g [] limits small = small
all_keep_small kind g (w ∷ ws) limits small = all_keep_small kind (apply kind g w) ws limits.1 (keeps_small kind g w limits.0 small)

empty_small : IsSmall empty_graph
empty_small = record {
  ids = λ v there. let none : false ≡ true = sym (ap is_some (fin_map.get-empty {X = Unit {0}} nat_cmp v)) ∙ there in cc;
  arcs = λ u v weight there. let none : ◌≡◌ {A = Option ℕ} None (Some weight) = sym (fin_map.get-empty {X = ℕ} arc_cmp (u, v)) ∙ there in cc;
}

writes_within : (journal : List Commit) → AllByRecursion (λ c. AllByRecursion IsWithinLimits c.writes) journal → AllByRecursion IsWithinLimits (writes_of journal)
writes_within [] all = tt
writes_within (c ∷ journal) all = all_on IsWithinLimits c.writes (writes_of journal) all.0 (writes_within journal all.1)

-- the snapshot of writes within their limits is small
pub view_small : (kind : Kind) (journal : List Commit) (start : ℕ) (own : List Write) → AllByRecursion (λ c. AllByRecursion IsWithinLimits c.writes) journal
    → AllByRecursion IsWithinLimits own → IsSmall (view kind journal start own)
view_small kind journal start own committed within =
    all_keep_small kind (graph_at kind journal start) own within
    (all_keep_small kind empty_graph (writes_of (take start journal))
    (writes_within (take start journal) (all_taken (λ c. AllByRecursion IsWithinLimits c.writes) start journal committed)) empty_small)

-- ---- counts

-- how many ids there are
abbrev pub ids_below : ℕ
ids_below = MAX_ID + 1

not_less : (n : ℕ) → nat_cmp n n ≡ Less → ⊥
not_less n less = grind (arith, nat_tests)

module _ (g : Graph) (small : IsSmall g) where
  -- where the graph has a vertex, it stands among the vertices once
  vertex_entry_at : (i v : ℕ) → slice_get (vertices_of g) i ≡ Some v → (e : ℕ × Unit {0}) × (slice_get (fin_map.entries g.vertices) i ≡ Some e) × (e.0 ≡ v)
  vertex_entry_at i v at = map_at (λ (e : ℕ × Unit {0}). e.0) (fin_map.entries g.vertices) i v at

  vertices_apart : (i j v : ℕ) → slice_get (vertices_of g) i ≡ Some v → slice_get (vertices_of g) j ≡ Some v → i ≡ j
  vertices_apart i j v at_i at_j =
      let a = vertex_entry_at i v at_i in
      let b = vertex_entry_at j v at_j in
      let rise = rises nat_cmp nat_cmp_total (fin_map.entries g.vertices) (true_from_T _ (fin_map.entries_sorted g.vertices)) in
      let same : a.0.0 ≡ b.0.0 = a.2 ∙ sym b.2 in
      ⊎_elim (λ equal. equal) (⊎_elim
      (λ less. absurd (not_less b.0.0 (subst (λ n. nat_cmp n b.0.0 ≡ Less) same (rise i j a.0 b.0 less a.1 b.1))))
      (λ more. absurd (not_less b.0.0 (subst (λ n. nat_cmp b.0.0 n ≡ Less) same (rise j i b.0 a.0 more b.1 a.1)))))
      (cases_order i j)

  pub vertex_within : (i v : ℕ) → slice_get (vertices_of g) i ≡ Some v → v ≤ MAX_ID
  vertex_within i v at =
      let a = vertex_entry_at i v at in
      let there = found nat_cmp nat_cmp_total (fin_map.entries g.vertices) (true_from_T _ (fin_map.entries_sorted g.vertices)) i a.0 a.1 in
      subst (λ n. n ≤ MAX_ID) a.2 (small.ids a.0.0 (ap is_some (fin_map.get-entries g.vertices a.0.0 ∙ there)))

  pub vertices_count : length (vertices_of g) ≤ ids_below
  vertices_count = apart_short (vertices_of g) ids_below vertices_apart (λ i v at. let within = vertex_within i v at in omega arith)

  -- ---- arcs, each by one number

  abbrev number_of : (ℕ × ℕ) × ℕ → ℕ
  number_of e = e.0.0 * ids_below + e.0.1

  arc_within : (i : ℕ) (e : (ℕ × ℕ) × ℕ) → slice_get (fin_map.entries g.arcs) i ≡ Some e → (e.0.0 ≤ MAX_ID) × (e.0.1 ≤ MAX_ID) × (e.1 ≤ MAX_WEIGHT)
  arc_within i e at =
      let there = found arc_cmp arcs_total (fin_map.entries g.arcs) (true_from_T _ (fin_map.entries_sorted g.arcs)) i e at in
      small.arcs e.0.0 e.0.1 e.1 (fin_map.get-entries g.arcs e.0 ∙ there)

  numbers_tell : (a b c d : ℕ) → b < ids_below → d < ids_below → a * ids_below + b ≡ c * ids_below + d → (a ≡ c) × (b ≡ d)
  numbers_tell a b c d small_b small_d e = (omega arith, omega arith)

  arcs_apart : (i j n : ℕ) → slice_get (map number_of (fin_map.entries g.arcs)) i ≡ Some n → slice_get (map number_of (fin_map.entries g.arcs)) j ≡ Some n → i ≡ j
  arcs_apart i j n at_i at_j =
      let a = map_at number_of (fin_map.entries g.arcs) i n at_i in
      let b = map_at number_of (fin_map.entries g.arcs) j n at_j in
      let in_a = arc_within i a.0 a.1 in
      let in_b = arc_within j b.0 b.1 in
      let same = numbers_tell a.0.0.0 a.0.0.1 b.0.0.0 b.0.0.1 (let w = in_a.1 in omega arith) (let w = in_b.1 in omega arith) (a.2 ∙ sym b.2) in
      let keys : ◌≡◌ {A = ℕ × ℕ} a.0.0 b.0.0 = (λ k. (same.0 k, same.1 k)) in
      let rise = rises arc_cmp arcs_total (fin_map.entries g.arcs) (true_from_T _ (fin_map.entries_sorted g.arcs)) in
      ⊎_elim (λ equal. equal) (⊎_elim
      (λ less. absurd (arc_not_less b.0.0 (subst (λ q. arc_cmp q b.0.0 ≡ Less) keys (rise i j a.0 b.0 less a.1 b.1))))
      (λ more. absurd (arc_not_less b.0.0 (subst (λ q. arc_cmp b.0.0 q ≡ Less) keys (rise j i b.0 a.0 more b.1 a.1)))))
      (cases_order i j)
    where
      arc_not_less : (q : ℕ × ℕ) → arc_cmp q q ≡ Less → ⊥
      arc_not_less q less = grind (arith, nat_tests)

  pub arcs_count : fin_map.len g.arcs ≤ ids_below * ids_below
  arcs_count =
      let count = apart_short (map number_of (fin_map.entries g.arcs)) (ids_below * ids_below) arcs_apart
      (λ i n at. let a = map_at number_of (fin_map.entries g.arcs) i n at in let within = arc_within i a.0 a.1 in let first = within.0 in let second = within.1 in let is = a.2 in omega arith) in
      let same = length-map (fin_map.entries g.arcs) number_of in
      let len = fin_map.len-entries g.arcs in
      omega arith

-- ---- targets

module _ (g : Graph) (v : ℕ) where
  abbrev from : Key
  from = record { src = v; second = 1 }

  abbrev until : Key
  until = record { src = v + 1; second = 0 }

  -- a row of the range is an arc's from v
  arc_row : (r : Row) → is_between from until r.key ≡ true → (r.key.src ≡ v) × (1 ≤ r.key.second)
  arc_row r between = (grind (arith, nat_tests), grind (arith, nat_tests))

  arc_value : (r : Row) → 1 ≤ r.key.second → value_at g r.key ≡ Some r.weight → weight_of g r.key.src (r.key.second - 1) ≡ Some r.weight
  arc_value r arc is =
      ap (λ t. cond t (cond (has_vertex g r.key.src) (Some 0) None) (weight_of g r.key.src (r.key.second - 1))) (sym (ne_eqb r.key.second 0 (λ none. absurd (omega arith)))) ∙ is

  -- an arc leads from v to each target
  pub target_arc : (i t : ℕ) → slice_get (targets_of g v) i ≡ Some t → (weight : ℕ) × (weight_of g v t ≡ Some weight)
  target_arc i t at =
      let r = map_at (λ (r : Row). r.key.second - 1) (rows g from until) i t at in
      let is = row_is_between g from until i r.0 r.1 in
      let arc = arc_row r.0 is.0 in
      (r.0.weight, (λ k. weight_of g (sym arc.0 k) (sym r.2 k)) ∙ arc_value r.0 arc.1 is.1)

  -- rows of one vertex with one target are not below each other
  not_below : (r s : Row) → is_between from until r.key ≡ true → is_between from until s.key ≡ true → r.key.second - 1 ≡ s.key.second - 1 → is_below r.key s.key ≡ true → ⊥
  not_below r s between_r between_s same below =
      let arc_r = arc_row r between_r in
      let arc_s = arc_row s between_s in
      let sources : r.key.src ≡ s.key.src = arc_r.0 ∙ sym arc_s.0 in
      let seconds : r.key.second ≡ s.key.second = omega (arith, arc_r.1, arc_s.1) in
      let keys : r.key ≡ s.key = (λ i. record { src = sources i; second = seconds i }) in
      key_not_below s.key (subst (λ k. is_below k s.key ≡ true) keys below)
    where
      key_not_below : (k : Key) → is_below k k ≡ true → ⊥
      key_not_below k below = grind (arith, nat_tests)

  targets_apart : (i j t : ℕ) → slice_get (targets_of g v) i ≡ Some t → slice_get (targets_of g v) j ≡ Some t → i ≡ j
  targets_apart i j t at_i at_j =
      let a = map_at (λ (r : Row). r.key.second - 1) (rows g from until) i t at_i in
      let b = map_at (λ (r : Row). r.key.second - 1) (rows g from until) j t at_j in
      let is_a = row_is_between g from until i a.0 a.1 in
      let is_b = row_is_between g from until j b.0 b.1 in
      ⊎_elim (λ equal. equal) (⊎_elim
      (λ less. absurd (not_below a.0 b.0 is_a.0 is_b.0 (a.2 ∙ sym b.2) (rows_rise_between g from until i j a.0 b.0 less a.1 b.1)))
      (λ more. absurd (not_below b.0 a.0 is_b.0 is_a.0 (b.2 ∙ sym a.2) (rows_rise_between g from until j i b.0 a.0 more b.1 a.1))))
      (cases_order i j)

  module _ (small : IsSmall g) where
    target_within : (i t : ℕ) → slice_get (targets_of g v) i ≡ Some t → t ≤ MAX_ID
    target_within i t at = let arc = target_arc i t at in (small.arcs v t arc.0 arc.1).1

    pub targets_are : AllByRecursion (λ t. t ≤ MAX_ID) (targets_of g v)
    targets_are = all_from_places (λ t. t ≤ MAX_ID) (targets_of g v) target_within

    pub targets_count : length (targets_of g v) ≤ ids_below
    targets_count = apart_short (targets_of g v) ids_below targets_apart (λ i t at. let within = target_within i t at in omega arith)
