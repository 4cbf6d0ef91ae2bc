-- How many rows of a graph are vertices, and how many are arcs.
use Rattle.std.proofs.Common.{◌≡◌, ℕ, suc, ◌+◌, ◌-◌, ◌≤◌, List, [], ◌∷◌, length, refl, sym, ◌∙◌, ap, cond, arith}
use Rattle.std.specs.Prelude.{Bool, true, false, ◌==◌, ◌&&◌, ◌||◌, not, T, map, count_by, Option, Some, None}
use Rattle.std.specs.List.{list_any}
use Rattle.std.specs.Ordering.{nat_cmp, ordering_then, eq_by_cmp, is_lt}
use Rattle.std.specs.declared.cmp.Ordering.{Ordering}
use Rattle.std.specs.declared.cmp.Ordering.TheVariants.{Less, Equal, Greater}
use Rattle.std.specs.Cmp.{unsigned_tied}
use Rattle.std.specs.FinMap as fin_map
use Rattle.std.specs.FinMap.Entries.{find, is_sorted, below_all, where_key, find-where_key, is_sorted-where_key, same_entries}
use Rattle.std.proofs.lemmas.Bool.Decides.{nat_tests}
use Rattle.std.proofs.lemmas.List.{length-map}
use Rattle.std.proofs.lemmas.List.Sums.{length-filter, sum_by-append}
use Rattle.graph_model.specs.declared.limits.TheConstants.{MAX_ID}
use Rattle.graph_model.specs.declared.row.Key.{Key}
use Rattle.graph_model.specs.Graph.{Graph, arc_cmp, has_vertex, weight_of, vertices_of}
use Rattle.graph_model.specs.Rows.{key_cmp, is_between, vertex_key, arc_key, vertex_entry, arc_entry, row_of, row_map, value_at, first_key, end_key, all_rows, AreRowsOf}
use Rattle.graph_model.proofs.OrderLemmas.{keys_total, keys_exact, key_tie, arc_tie}
use Rattle.graph_model.proofs.RowLemmas.{find-entries, second_tie, has_source}
use Rattle.graph_model.proofs.SortedLemmas.{true_from_T, T_from_true}
use Rattle.line_runner.specs.Scanning.{is_vertex}

-- ---- tests on lists

count_cons : {X : Type 0} (p : X → Bool) (x : X) (xs : List X) → count_by p (x ∷ xs) ≡ cond (p x) 1 0 + count_by p xs
count_cons p x xs = sum_by-append (λ y. cond (p y) 1 0) (x ∷ []) xs ∙ ap (λ n. n + count_by p xs) (single (cond (p x) 1 0))
  where
    single : (n : ℕ) → 0 + n ≡ n
    single n = omega arith

-- what passes a test and what doesn't are the whole
count_both : {X : Type 0} (p : X → Bool) (xs : List X) → count_by p xs + count_by (λ x. not (p x)) xs ≡ length xs
count_both p [] = refl
count_both p (x ∷ xs) =
    (λ i. count_cons p x xs i + count_cons (λ y. not (p y)) x xs i)
    ∙ one (p x) (count_by p xs) (count_by (λ y. not (p y)) xs) (length xs) (count_both p xs)
  where
    one : (b : Bool) (m n k : ℕ) → m + n ≡ k → (cond b 1 0 + m) + (cond (not b) 1 0 + n) ≡ suc k
    one true m n k e = omega arith
    one false m n k e = omega arith

-- a test of what a list is mapped to
count_map : {X Y : Type 0} (p : Y → Bool) (f : X → Y) (xs : List X) → count_by p (map f xs) ≡ count_by (λ x. p (f x)) xs
count_map p f [] = refl
count_map p f (x ∷ xs) = count_cons p (f x) (map f xs) ∙ ap (λ n. cond (p (f x)) 1 0 + n) (count_map p f xs) ∙ sym (count_cons (λ y. p (f y)) x xs)

-- entries whose keys are mapped to others in the same order
module _ {K L X Y : Type 0} (R : K → K → Ordering) (S : L → L → Ordering) (f : K × X → L × Y) (same : (a b : K × X) → S (f a).0 (f b).0 ≡ R a.0 b.0) where
  below_map : (e : K × X) (es : List (K × X)) → below_all S (f e).0 (map f es) ≡ below_all R e.0 es
  below_map e [] = refl
  below_map e (d ∷ es) = λ i. is_lt (same e d i) && below_map e es i

  sorted_map : (es : List (K × X)) → is_sorted S (map f es) ≡ is_sorted R es
  sorted_map [] = refl
  sorted_map (e ∷ es) = λ i. below_map e es i && sorted_map es i

-- ---- keys

then_equal : (r : Ordering) → ordering_then r Equal ≡ r
then_equal Less = refl
then_equal Equal = refl
then_equal Greater = refl

vertex_order : (a b : ℕ) → key_cmp (vertex_key a) (vertex_key b) ≡ nat_cmp a b
vertex_order a b = then_equal (nat_cmp a b)

next_order : (a b : ℕ) → nat_cmp (a + 1) (b + 1) ≡ nat_cmp a b
next_order a b = grind (arith, nat_tests)

arc_order : (a b : ℕ × ℕ) → key_cmp (arc_key a.0 a.1) (arc_key b.0 b.1) ≡ arc_cmp a b
arc_order a b = ap (ordering_then (nat_cmp a.0 b.0)) (next_order a.1 b.1)

-- what the vertices have at a key
neither : (b : Bool) (x : Option ℕ) → x ≡ cond (b && false) (Some 0) x
neither true x = refl
neither false x = refl

one_of : (a b m : Bool) (x : Option ℕ) → cond (a && b) x (cond (b && m) x None) ≡ cond (b && (a || m)) x None
one_of true true m x = refl
one_of true false m x = refl
one_of false true m x = refl
one_of false false m x = refl

find-vertices : (vs : List ℕ) (q : Key) → find key_cmp q (map vertex_entry vs) ≡ cond ((q.second == 0) && list_any (eq_by_cmp nat_cmp q.src) vs) (Some 0) None
find-vertices [] q = neither (q.second == 0) None
find-vertices (v ∷ vs) q =
    ap (λ t. cond t (Some 0) (find key_cmp q (map vertex_entry vs))) (key_tie q (vertex_key v) ∙ ap (λ b. b && (q.second == 0)) (sym (unsigned_tied q.src v)))
    ∙ ap (cond (eq_by_cmp nat_cmp q.src v && (q.second == 0)) (Some 0)) (find-vertices vs q)
    ∙ one_of (eq_by_cmp nat_cmp q.src v) (q.second == 0) (list_any (eq_by_cmp nat_cmp q.src) vs) (Some 0)

arc_one : (z a b : Bool) (x y : Option ℕ) → cond (a && cond z false b) x (cond z None y) ≡ cond z None (cond (a && b) x y)
arc_one true true b x y = refl
arc_one true false b x y = refl
arc_one false a b x y = refl

-- what the arcs have at a key
find-arcs : (arcs : List ((ℕ × ℕ) × ℕ)) (q : Key) → find key_cmp q (map arc_entry arcs) ≡ cond (q.second == 0) None (find arc_cmp (q.src, q.second - 1) arcs)
find-arcs [] q = elim (q.second == 0) as (λ b. let none : Option ℕ = None in none ≡ cond b None None) [ true ↦ refl | false ↦ refl ]
find-arcs (e ∷ arcs) q =
    ap (λ t. cond t (Some e.1) (find key_cmp q (map arc_entry arcs))) (key_tie q (arc_key e.0.0 e.0.1) ∙ ap (λ b. (q.src == e.0.0) && b) (second_tie q.second e.0.1))
    ∙ ap (cond ((q.src == e.0.0) && cond (q.second == 0) false (q.second - 1 == e.0.1)) (Some e.1)) (find-arcs arcs q)
    ∙ arc_one (q.second == 0) (q.src == e.0.0) (q.second - 1 == e.0.1) (Some e.1) (find arc_cmp (q.src, q.second - 1) arcs)
    ∙ ap (λ t. cond (q.second == 0) None (cond t (Some e.1) (find arc_cmp (q.src, q.second - 1) arcs))) (sym (arc_tie q.src (q.second - 1) e.0.0 e.0.1))

-- ---- the rows of a graph

within_end : (q : Key) → q.src ≤ MAX_ID → is_between first_key end_key q ≡ true
within_end q le = grind (arith, nat_tests)

module _ (g : Graph) (are : AreRowsOf (all_rows g) g) where
  -- the rows as entries
  abbrev entries : List (Key × ℕ)
  entries = where_key key_cmp (is_between first_key end_key) (fin_map.entries (row_map g))

  sorted : T (is_sorted key_cmp entries)
  sorted = is_sorted-where_key key_cmp (is_between first_key end_key) (fin_map.entries (row_map g)) (fin_map.entries_sorted (row_map g))

  -- where the graph has something, the key is one of the range
  ranged : (q : Key) → cond (is_between first_key end_key q) (value_at g q) None ≡ value_at g q
  ranged q = by_value (value_at g q) refl
    where
      by_value : (x : Option ℕ) → value_at g q ≡ x → cond (is_between first_key end_key q) x None ≡ x
      by_value None e = elim (is_between first_key end_key q) as (λ b. let none : Option ℕ = None in cond b none None ≡ none) [ true ↦ refl | false ↦ refl ]
      by_value (Some w) e = ap (λ b. cond b (Some w) None) (within_end q (are.within q.src (has_source g q w are.ends e)))

  there : (q : Key) → find key_cmp q entries ≡ value_at g q
  there q = find-entries g first_key end_key q ∙ ranged q

  abbrev is_first : Key → Bool
  is_first key = key.second == 0

  alike : (p : Key → Bool) (q x : Key) → key_cmp q x ≡ Equal → p x ≡ p q
  alike p q x e = ap p (sym (keys_exact q x e))

  by_second : (b m : Bool) (w : Option ℕ) → cond b (cond b (cond m (Some 0) None) w) None ≡ cond (b && m) (Some 0) None
  by_second true m w = refl
  by_second false m w = refl

  vertices_are : where_key key_cmp is_first entries ≡ map vertex_entry (vertices_of g)
  vertices_are = same_entries key_cmp keys_total keys_exact (where_key key_cmp is_first entries) (map vertex_entry (vertices_of g))
      (is_sorted-where_key key_cmp is_first entries sorted)
      (T_from_true _ (ap (is_sorted key_cmp) (mapped (fin_map.entries g.vertices)) ∙ sorted_map nat_cmp key_cmp (λ (e : ℕ × Unit {0}). vertex_entry e.0) (λ a b. vertex_order a.0 b.0) (fin_map.entries g.vertices) ∙ true_from_T _ (fin_map.entries_sorted g.vertices)))
      (λ q. find-where_key key_cmp is_first q (alike is_first q) entries
      ∙ ap (λ x. cond (q.second == 0) x None) (there q)
      ∙ by_second (q.second == 0) (has_vertex g q.src) (weight_of g q.src (q.second - 1))
      ∙ ap (λ m. cond ((q.second == 0) && m) (Some 0) None) (fin_map.contains_key-keys g.vertices q.src)
      ∙ sym (find-vertices (vertices_of g) q))
    where
      mapped : (es : List (ℕ × Unit {0})) → map vertex_entry (map (λ e. e.0) es) ≡ map (λ (e : ℕ × Unit {0}). vertex_entry e.0) es
      mapped [] = refl
      mapped (e ∷ es) = ap (λ xs. vertex_entry e.0 ∷ xs) (mapped es)

  by_other : (b : Bool) (v w : Option ℕ) → cond (not b) (cond b v w) None ≡ cond b None w
  by_other true v w = refl
  by_other false v w = refl

  arcs_are : where_key key_cmp (λ key. not (is_first key)) entries ≡ map arc_entry (fin_map.entries g.arcs)
  arcs_are = same_entries key_cmp keys_total keys_exact (where_key key_cmp (λ key. not (is_first key)) entries) (map arc_entry (fin_map.entries g.arcs))
      (is_sorted-where_key key_cmp (λ key. not (is_first key)) entries sorted)
      (T_from_true _ (sorted_map arc_cmp key_cmp arc_entry (λ a b. arc_order a.0 b.0) (fin_map.entries g.arcs) ∙ true_from_T _ (fin_map.entries_sorted g.arcs)))
      (λ q. find-where_key key_cmp (λ key. not (is_first key)) q (alike (λ key. not (is_first key)) q) entries
      ∙ ap (λ x. cond (not (q.second == 0)) x None) (there q)
      ∙ by_other (q.second == 0) (cond (has_vertex g q.src) (Some 0) None) (weight_of g q.src (q.second - 1))
      ∙ ap (λ x. cond (q.second == 0) None x) (fin_map.get-entries g.arcs (q.src, q.second - 1))
      ∙ sym (find-arcs (fin_map.entries g.arcs) q))

  -- the rows of vertices are as many as the vertices
  pub vertex_count : count_by is_vertex (all_rows g) ≡ length (vertices_of g)
  vertex_count =
      count_map is_vertex row_of entries
      ∙ sym (length-filter (λ e. is_first e.0) entries)
      ∙ ap length vertices_are
      ∙ length-map _ _

  -- and the others as many as the arcs
  pub arc_count : length (all_rows g) ≡ length (vertices_of g) + length (fin_map.entries g.arcs)
  arc_count =
      length-map _ _
      ∙ sym (count_both (λ e. is_first e.0) entries)
      ∙ (λ i. sym (length-filter (λ e. is_first e.0) entries) i + sym (length-filter (λ e. not (is_first e.0)) entries) i)
      ∙ (λ i. (ap length vertices_are ∙ length-map _ _) i + (ap length arcs_are ∙ length-map _ _) i)
