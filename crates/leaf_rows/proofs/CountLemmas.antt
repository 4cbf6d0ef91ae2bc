-- How many vertices and arcs a graph has, by its rows.
use Rattle.std.proofs.Common.{◌≡◌, ℕ, suc, ◌+◌, ◌-◌, ◌*◌, ◌<◌, ◌≤◌, List, [], ◌∷◌, ◌++◌, length, map, refl, sym, ◌∙◌, ap, cond, arith}
use Rattle.std.specs.Prelude.{Bool, true, false, not, ◌==◌, ◌&&◌, ◌||◌, Option, Some, None, count_by}
use Rattle.std.specs.List.{list_any, AllByRecursion, flat_map}
use Rattle.std.specs.Ordering.{nat_cmp, eq_by_cmp, is_lt}
use Rattle.std.specs.Cmp.{unsigned_tied}
use Rattle.std.specs.FinMap as fin_map
use Rattle.std.specs.FinMap.Entries.{find, is_sorted, below_all, where_key, same_entries, is_sorted-where_key, find-where_key}
use Rattle.std.proofs.lemmas.Bool.Decides.{nat_tests}
use Rattle.std.proofs.lemmas.List.Sums.{sum_by-cons}
use Rattle.graph_model.specs.declared.row.Key.{Key}
use Rattle.graph_model.specs.declared.row.Row.{Row}
use Rattle.graph_model.specs.declared.journal.TxnName.{TxnName}
use Rattle.graph_model.specs.Graph.{Graph, has_vertex, vertices_of, weight_of, arc_cmp}
use Rattle.graph_model.specs.Rows.{key_cmp, is_below, is_between, first_key, end_key, vertex_key, arc_key, vertex_entry, arc_entry, value_at, rows, row_of, row_map}
use Rattle.graph_model.proofs.OrderLemmas.{keys_total, keys_exact, key_tie, arc_tie}
use Rattle.graph_model.proofs.RowLemmas.{second_tie, find-entries, ranges_adjoin}
use Rattle.graph_model.proofs.SortedLemmas.{true_from_T, T_from_true, both_true}
use Rattle.undo_chain.specs.declared.states.Snapshot.{Snapshot}
use Rattle.row_writes.specs.VersionSegment.Rows.{VersionedRows}
use Rattle.leaf_store.specs.Leaves.{Leaves, Part, AreLeaves, IsPart, cells_of}
use Rattle.leaf_rows.specs.Counted.{is_vertex_row}
use Rattle.leaf_rows.specs.Runs.{ShowsBy, cells_behind, runs_left}
use Rattle.leaf_rows.proofs.EdgeLemmas.{ends_with_keys, seen_within}

-- ---- how many rows there may be

few_behind : (key : Key) (cs : List VersionedRows) → cells_behind key cs ≤ length cs
few_behind key [] = omega arith
few_behind key (c ∷ cs) = go (is_below key c.high) (few_behind key cs)
  where
    go : (t : Bool) → cells_behind key cs ≤ length cs → cond t 1 0 + cells_behind key cs ≤ length (c ∷ cs)
    go true h = omega (arith, h)
    go false h = omega (arith, h)

length_of_both : {X : Type 0} (xs ys : List X) → length (xs ++ ys) ≡ length xs + length ys
length_of_both [] ys = omega arith
length_of_both (x ∷ xs) ys = let h = length_of_both xs ys in omega (arith, h)

eight_each : (ps : List Part) → AllByRecursion IsPart ps → length (flat_map (λ p. p.segments) ps) ≡ 8 * length ps
eight_each [] is = omega arith
eight_each (p ∷ ps) is =
    let one : length p.segments ≡ 8 = is.0 in
    let rest = eight_each ps is.1 in
    let both = length_of_both p.segments (flat_map (λ p. p.segments) ps) in
    omega (arith, one, rest, both)

pub few_runs : (s : Leaves) (key until : Key) → AreLeaves s → length s.parts ≤ s.limit → s.limit < 4294967296 → 32 * runs_left s key until ≤ 1099511627808
few_runs s key until sound few limit = go (is_below key until)
  where
    go : (t : Bool) → 32 * cond t (cells_behind key (cells_of s) + 1) 0 ≤ 1099511627808
    go true = let h = few_behind key (cells_of s) in let e = eight_each s.parts sound.parts in omega (arith, h, e, few, limit)
    go false = omega arith

-- ---- rows of adjoining ranges

count_of_both : {X : Type 0} (p : X → Bool) (xs ys : List X) → count_by p (xs ++ ys) ≡ count_by p xs + count_by p ys
count_of_both p [] ys = omega arith
count_of_both p (x ∷ xs) ys =
    let h = count_of_both p xs ys in
    let a = sum_by-cons (λ z. cond (p z) 1 0) x (xs ++ ys) in
    let b = sum_by-cons (λ z. cond (p z) 1 0) x xs in
    omega (arith, h, a, b)

pub count_on : (p : Row → Bool) (g : Graph) (from next end : Key) → is_below next from ≡ false → is_below end next ≡ false → count_by p (rows g from end) ≡ count_by p (rows g from next) + count_by p (rows g next end)
count_on p g from next end behind onward = ap (count_by p) (sym (ranges_adjoin g from next end behind onward)) ∙ count_of_both p (rows g from next) (rows g next end)

pub length_on : (g : Graph) (from next end : Key) → is_below next from ≡ false → is_below end next ≡ false → length (rows g from end) ≡ length (rows g from next) + length (rows g next end)
length_on g from next end behind onward = ap length (sym (ranges_adjoin g from next end behind onward)) ∙ length_of_both (rows g from next) (rows g next end)

count_rest : {X : Type 0} (p : X → Bool) (xs : List X) → count_by p xs + count_by (λ x. not (p x)) xs ≡ length xs
count_rest p [] = omega arith
count_rest p (x ∷ xs) =
    let h = count_rest p xs in
    let a = sum_by-cons (λ z. cond (p z) 1 0) x xs in
    let b = sum_by-cons (λ z. cond (not (p z)) 1 0) x xs in
    let one = go (p x) in
    omega (arith, h, a, b, one)
  where
    go : (t : Bool) → ◌≡◌ {A = ℕ} (cond t 1 0 + cond (not t) 1 0) 1
    go true = omega arith
    go false = omega arith

-- ---- the entries of a graph's vertices, and of its arcs

one_of : (a b m : Bool) (x : Option ℕ) → cond (a && b) x (cond (b && m) x None) ≡ cond (b && (a || m)) x None
one_of true true m x = refl
one_of true false m x = refl
one_of false true m x = refl
one_of false false m x = refl

neither : (b : Bool) (x : Option ℕ) → x ≡ cond (b && false) (Some 0) x
neither true x = refl
neither false x = refl

find-vertices : (vs : List ℕ) (q : Key) → find key_cmp q (map vertex_entry vs) ≡ cond ((q.second == 0) && list_any (eq_by_cmp nat_cmp q.src) vs) (Some 0) None
find-vertices [] q = neither (q.second == 0) None
find-vertices (v ∷ vs) q =
    ap (λ t. cond t (Some 0) (find key_cmp q (map vertex_entry vs))) (key_tie q (vertex_key v) ∙ ap (λ b. b && (q.second == 0)) (sym (unsigned_tied q.src v)))
    ∙ ap (cond (eq_by_cmp nat_cmp q.src v && (q.second == 0)) (Some 0)) (find-vertices vs q)
    ∙ one_of (eq_by_cmp nat_cmp q.src v) (q.second == 0) (list_any (eq_by_cmp nat_cmp q.src) vs) (Some 0)

arc_one : (z a b : Bool) (x y : Option ℕ) → cond (a && cond z false b) x (cond z None y) ≡ cond z None (cond (a && b) x y)
arc_one true true b x y = refl
arc_one true false b x y = refl
arc_one false a b x y = refl

find-arcs : (arcs : List ((ℕ × ℕ) × ℕ)) (q : Key) → find key_cmp q (map arc_entry arcs) ≡ cond (q.second == 0) None (find arc_cmp (q.src, q.second - 1) arcs)
find-arcs [] q = elim (q.second == 0) as (λ b. let none : Option ℕ = None in none ≡ cond b None None) [ true ↦ refl | false ↦ refl ]
find-arcs (e ∷ arcs) q =
    ap (λ t. cond t (Some e.1) (find key_cmp q (map arc_entry arcs))) (key_tie q (arc_key e.0.0 e.0.1) ∙ ap (λ b. (q.src == e.0.0) && b) (second_tie q.second e.0.1))
    ∙ ap (cond ((q.src == e.0.0) && cond (q.second == 0) false (q.second - 1 == e.0.1)) (Some e.1)) (find-arcs arcs q)
    ∙ arc_one (q.second == 0) (q.src == e.0.0) (q.second - 1 == e.0.1) (Some e.1) (find arc_cmp (q.src, q.second - 1) arcs)
    ∙ ap (λ t. cond (q.second == 0) None (cond t (Some e.1) (find arc_cmp (q.src, q.second - 1) arcs))) (sym (arc_tie q.src (q.second - 1) e.0.0 e.0.1))

vertex_order : (x y : ℕ) → is_lt (key_cmp (vertex_key x) (vertex_key y)) ≡ is_lt (nat_cmp x y)
vertex_order x y = grind (arith, nat_tests)

arc_order : (a b : ℕ × ℕ) → is_lt (key_cmp (arc_key a.0 a.1) (arc_key b.0 b.1)) ≡ is_lt (arc_cmp a b)
arc_order a b = grind (arith, nat_tests)

below_vertices : (x : ℕ) (es : List (ℕ × Unit {0})) → below_all nat_cmp x es ≡ true → below_all key_cmp (vertex_key x) (map (λ (e : ℕ × Unit {0}). vertex_entry e.0) es) ≡ true
below_vertices x [] below = refl
below_vertices x (e ∷ es) below = let both = both_true (is_lt (nat_cmp x e.0)) (below_all nat_cmp x es) below in λ i. (vertex_order x e.0 ∙ both.0) i && below_vertices x es both.1 i

sorted_vertices : (es : List (ℕ × Unit {0})) → is_sorted nat_cmp es ≡ true → is_sorted key_cmp (map (λ (e : ℕ × Unit {0}). vertex_entry e.0) es) ≡ true
sorted_vertices [] sorted = refl
sorted_vertices (e ∷ es) sorted = let both = both_true (below_all nat_cmp e.0 es) (is_sorted nat_cmp es) sorted in λ i. below_vertices e.0 es both.0 i && sorted_vertices es both.1 i

below_arcs : (x : ℕ × ℕ) (es : List ((ℕ × ℕ) × ℕ)) → below_all arc_cmp x es ≡ true → below_all key_cmp (arc_key x.0 x.1) (map arc_entry es) ≡ true
below_arcs x [] below = refl
below_arcs x (e ∷ es) below = let both = both_true (is_lt (arc_cmp x e.0)) (below_all arc_cmp x es) below in λ i. (arc_order x e.0 ∙ both.0) i && below_arcs x es both.1 i

sorted_arcs : (es : List ((ℕ × ℕ) × ℕ)) → is_sorted arc_cmp es ≡ true → is_sorted key_cmp (map arc_entry es) ≡ true
sorted_arcs [] sorted = refl
sorted_arcs (e ∷ es) sorted = let both = both_true (below_all arc_cmp e.0 es) (is_sorted arc_cmp es) sorted in λ i. below_arcs e.0 es both.0 i && sorted_arcs es both.1 i

map_keys : (es : List (ℕ × Unit {0})) → map vertex_entry (map (λ (e : ℕ × Unit {0}). e.0) es) ≡ map (λ (e : ℕ × Unit {0}). vertex_entry e.0) es
map_keys [] = refl
map_keys (e ∷ es) = ap (λ xs. vertex_entry e.0 ∷ xs) (map_keys es)

length_of_map : {A B : Type 0} (f : A → B) (xs : List A) → length (map f xs) ≡ length xs
length_of_map f [] = refl
length_of_map f (x ∷ xs) = ap suc (length_of_map f xs)

-- ---- counts

-- rows that pass a test of keys
counted : (p : Key → Bool) (es : List (Key × ℕ)) → count_by (λ r. p r.key) (map row_of es) ≡ length (where_key key_cmp p es)
counted p [] = refl
counted p (e ∷ es) = sum_by-cons (λ (r : Row). cond (p r.key) 1 0) (row_of e) (map row_of es) ∙ go (p e.0) (counted p es)
  where
    go : (t : Bool) → count_by (λ r. p r.key) (map row_of es) ≡ length (where_key key_cmp p es)
        → cond t 1 0 + count_by (λ r. p r.key) (map row_of es) ≡ length (cond t (e ∷ where_key key_cmp p es) (where_key key_cmp p es))
    go true rest = omega (arith, rest)
    go false rest = omega (arith, rest)

module _ (stamps : TxnName → Option ℕ) (snapshot : Snapshot) (s : Leaves) (sound : AreLeaves s) (g : Graph) (shows : ShowsBy stamps snapshot s g) where
  abbrev entries : List (Key × ℕ)
  entries = where_key key_cmp (is_between first_key end_key) (fin_map.entries (row_map g))

  entries_sorted : is_sorted key_cmp entries ≡ true
  entries_sorted = true_from_T (is_sorted key_cmp entries) (is_sorted-where_key key_cmp (is_between first_key end_key) (fin_map.entries (row_map g)) (fin_map.entries_sorted (row_map g)))

  -- what a graph has has a key below the last one
  value_found : (p : Key → Bool) (q : Key) → find key_cmp q (where_key key_cmp p entries) ≡ cond (p q) (value_at g q) None
  value_found p q =
      find-where_key key_cmp p q (λ x e. ap p (sym (keys_exact q x e))) entries
      ∙ ap (λ x. cond (p q) x None) (find-entries g first_key end_key q ∙ whole (value_at g q) refl (is_between first_key end_key q) refl)
    where
      whole : (x : Option ℕ) → value_at g q ≡ x → (t : Bool) → is_between first_key end_key q ≡ t → cond t (value_at g q) None ≡ value_at g q
      whole x e true f = refl
      whole None e false f = sym e
      whole (Some w) e false f =
          let inside : is_between first_key end_key q ≡ true =
          seen_within g (ends_with_keys stamps snapshot s sound g shows) q w e in
          let clash : true ≡ false = sym inside ∙ f in
          cc

  pub vertices_counted : count_by is_vertex_row (rows g first_key end_key) ≡ length (vertices_of g)
  vertices_counted =
      counted (λ k. k.second == 0) entries
      ∙ ap length (same_entries key_cmp keys_total keys_exact (where_key key_cmp (λ k. k.second == 0) entries) (map vertex_entry (vertices_of g))
      (is_sorted-where_key key_cmp (λ k. k.second == 0) entries (T_from_true (is_sorted key_cmp entries) entries_sorted))
      (T_from_true _ (ap (is_sorted key_cmp) (map_keys (fin_map.entries g.vertices)) ∙ sorted_vertices (fin_map.entries g.vertices) (true_from_T _ (fin_map.entries_sorted g.vertices))))
      (λ q. value_found (λ k. k.second == 0) q ∙ by_test (q.second == 0) q
      ∙ (λ i. cond ((q.second == 0) && fin_map.contains_key-keys g.vertices q.src i) (Some 0) None) ∙ sym (find-vertices (vertices_of g) q)))
      ∙ length_of_map vertex_entry (vertices_of g)
    where
      by_test : (t : Bool) (q : Key) → cond t (cond t (cond (has_vertex g q.src) (Some 0) None) (weight_of g q.src (q.second - 1))) None ≡ cond (t && has_vertex g q.src) (Some 0) None
      by_test true q = refl
      by_test false q = refl

  arcs_counted : count_by (λ r. not (is_vertex_row r)) (rows g first_key end_key) ≡ fin_map.len g.arcs
  arcs_counted =
      counted (λ k. not (k.second == 0)) entries
      ∙ ap length (same_entries key_cmp keys_total keys_exact (where_key key_cmp (λ k. not (k.second == 0)) entries) (map arc_entry (fin_map.entries g.arcs))
      (is_sorted-where_key key_cmp (λ k. not (k.second == 0)) entries (T_from_true (is_sorted key_cmp entries) entries_sorted))
      (T_from_true _ (sorted_arcs (fin_map.entries g.arcs) (true_from_T _ (fin_map.entries_sorted g.arcs))))
      (λ q. value_found (λ k. not (k.second == 0)) q ∙ by_test (q.second == 0) q
      ∙ ap (cond (q.second == 0) None) (fin_map.get-entries g.arcs (q.src, q.second - 1)) ∙ sym (find-arcs (fin_map.entries g.arcs) q)))
      ∙ length_of_map arc_entry (fin_map.entries g.arcs) ∙ sym (fin_map.len-entries g.arcs)
    where
      by_test : (t : Bool) (q : Key) → cond (not t) (cond t (cond (has_vertex g q.src) (Some 0) None) (weight_of g q.src (q.second - 1))) None ≡ cond t None (weight_of g q.src (q.second - 1))
      by_test true q = refl
      by_test false q = refl

  -- all other rows are those of arcs
  pub others_counted : (vertices arcs : ℕ) → vertices ≡ count_by is_vertex_row (rows g first_key end_key) → vertices + arcs ≡ length (rows g first_key end_key) → arcs ≡ fin_map.len g.arcs
  others_counted vertices arcs first all =
      let rest = count_rest is_vertex_row (rows g first_key end_key) in
      let is : count_by (λ r. not (is_vertex_row r)) (rows g first_key end_key) ≡ arcs = omega (arith, first, all, rest) in
      sym is ∙ arcs_counted
