-- A graph's rows: they rise, and have the graph's value at each key.
use Rattle.std.proofs.Common.{◌≡◌, ℕ, ◌+◌, ◌-◌, ◌<◌, ◌≤◌, List, [], ◌∷◌, ◌++◌, refl, sym, ◌∙◌, ap, subst, cond, arith}
use Rattle.std.specs.Prelude.{Bool, true, false, ◌==◌, ◌&&◌, ◌||◌, not, IsTrue, Option, Some, None, map, is_some, slice_get}
use Rattle.std.specs.List.{list_any, filter}
use Rattle.std.specs.Option.{option_map}
use Rattle.std.specs.declared.cmp.Ordering.TheVariants.{Equal}
use Rattle.std.specs.Ordering.{nat_cmp, eq_by_cmp, is_lt}
use Rattle.std.specs.Cmp.{unsigned_tied}
use Rattle.std.specs.FinMap as fin_map
use Rattle.std.specs.FinMap.Entries.{find, is_sorted, below_all, where_key, find-where_key, is_sorted-where_key, same_entries}
use Rattle.std.proofs.lemmas.Bool.Decides.{nat_tests}
use Rattle.graph_model.specs.declared.limits.TheConstants.{MAX_ID}
use Rattle.graph_model.specs.declared.row.Key.{Key}
use Rattle.graph_model.specs.declared.row.Row.{Row}
use Rattle.graph_model.specs.Graph.{Graph, has_vertex, vertices_of, has_arc, weight_of, arc_cmp}
use Rattle.graph_model.specs.Rows.{key_cmp, is_below, vertex_key, arc_key, first_key, end_key, vertex_entry, arc_entry, row_map, row_of, is_between, rows, value_at, AreRowsOf}
use Rattle.graph_model.proofs.OrderLemmas.{keys_total, keys_exact, key_tie, arc_tie}
use Rattle.graph_model.proofs.SortedLemmas.{true_from_T, T_from_true, both_true, slice_get-map, map_at, rises, found, place_of}

one_of : (a b m : Bool) (x : Option ℕ) → cond (a && b) x (cond (b && m) x None) ≡ cond (b && (a || m)) x None
one_of true true m x = refl
one_of true false m x = refl
one_of false true m x = refl
one_of false false m x = refl

neither : (b : Bool) (x : Option ℕ) → x ≡ cond (b && false) (Some 0) x
neither true x = refl
neither false x = refl

-- what the vertices have at a key
find-vertices : (vs : List ℕ) (q : Key) → find key_cmp q (map vertex_entry vs) ≡ cond ((q.second == 0) && list_any (eq_by_cmp nat_cmp q.src) vs) (Some 0) None
find-vertices [] q = neither (q.second == 0) None
find-vertices (v ∷ vs) q =
    ap (λ t. cond t (Some 0) (find key_cmp q (map vertex_entry vs))) (key_tie q (vertex_key v) ∙ ap (λ b. b && (q.second == 0)) (sym (unsigned_tied q.src v)))
    ∙ ap (cond (eq_by_cmp nat_cmp q.src v && (q.second == 0)) (Some 0)) (find-vertices vs q)
    ∙ one_of (eq_by_cmp nat_cmp q.src v) (q.second == 0) (list_any (eq_by_cmp nat_cmp q.src) vs) (Some 0)

-- an arc's key ties with a key that isn't a vertex's
pub second_tie : (second v : ℕ) → (second == v + 1) ≡ cond (second == 0) false (second - 1 == v)
second_tie second v = grind (arith, nat_tests)

arc_one : (z a b : Bool) (x y : Option ℕ) → cond (a && cond z false b) x (cond z None y) ≡ cond z None (cond (a && b) x y)
arc_one true true b x y = refl
arc_one true false b x y = refl
arc_one false a b x y = refl

-- what the arcs have at a key
find-arcs : (arcs : List ((ℕ × ℕ) × ℕ)) (q : Key) → find key_cmp q (map arc_entry arcs) ≡ cond (q.second == 0) None (find arc_cmp (q.src, q.second - 1) arcs)
find-arcs [] q = elim (q.second == 0) as (λ b. let none : Option ℕ = None in none ≡ cond b None None) [ true ↦ refl | false ↦ refl ]
find-arcs (e ∷ arcs) q =
    ap (λ t. cond t (Some e.1) (find key_cmp q (map arc_entry arcs))) (key_tie q (arc_key e.0.0 e.0.1) ∙ ap (λ b. (q.src == e.0.0) && b) (second_tie q.second e.0.1))
    ∙ ap (cond ((q.src == e.0.0) && cond (q.second == 0) false (q.second - 1 == e.0.1)) (Some e.1)) (find-arcs arcs q)
    ∙ arc_one (q.second == 0) (q.src == e.0.0) (q.second - 1 == e.0.1) (Some e.1) (find arc_cmp (q.src, q.second - 1) arcs)
    ∙ ap (λ t. cond (q.second == 0) None (cond t (Some e.1) (find arc_cmp (q.src, q.second - 1) arcs))) (sym (arc_tie q.src (q.second - 1) e.0.0 e.0.1))

find-++ : {X : Type 0} (xs ys : List (Key × X)) (q : Key) → find key_cmp q (xs ++ ys) ≡ cond (is_some (find key_cmp q xs)) (find key_cmp q xs) (find key_cmp q ys)
find-++ [] ys q = refl
find-++ (x ∷ xs) ys q =
    elim (eq_by_cmp key_cmp q x.0) as (λ t. cond t (Some x.1) (find key_cmp q (xs ++ ys)) ≡ cond (is_some (cond t (Some x.1) (find key_cmp q xs))) (cond t (Some x.1) (find key_cmp q xs)) (find key_cmp q ys)) [
      | true ↦ refl
      | false ↦ find-++ xs ys q
    ]

both_parts : (z m : Bool) (y : Option ℕ) → let x : Option ℕ = cond (z && m) (Some 0) None in cond (is_some x) x (cond z None y) ≡ cond z (cond m (Some 0) None) y
both_parts true true y = refl
both_parts true false y = refl
both_parts false m y = refl

-- the map of rows has the graph's value at each key
pub get-row_map : (g : Graph) (q : Key) → fin_map.get (row_map g) q ≡ value_at g q
get-row_map g q =
    let vs = vertices_of g in
    let arcs = fin_map.entries g.arcs in
    fin_map.get-from_entries keys_total (map vertex_entry vs ++ map arc_entry arcs) q
    ∙ find-++ (map vertex_entry vs) (map arc_entry arcs) q
    ∙ (λ i. cond (is_some (find-vertices vs q i)) (find-vertices vs q i) (find-arcs arcs q i))
    ∙ both_parts (q.second == 0) (list_any (eq_by_cmp nat_cmp q.src) vs) (find arc_cmp (q.src, q.second - 1) arcs)
    ∙ (λ i. cond (q.second == 0) (cond (sym (fin_map.contains_key-keys g.vertices q.src) i) (Some 0) None) (sym (fin_map.get-entries g.arcs (q.src, q.second - 1)) i))

-- each row of a range, by its key and weight as an entry
abbrev entries_of : Graph → Key → Key → List (Key × ℕ)
entries_of g from until = where_key key_cmp (is_between from until) (fin_map.entries (row_map g))

entries_sorted : (g : Graph) (from until : Key) → is_sorted key_cmp (entries_of g from until) ≡ true
entries_sorted g from until = true_from_T _ (is_sorted-where_key key_cmp (is_between from until) (fin_map.entries (row_map g)) (fin_map.entries_sorted (row_map g)))

-- equal keys are between the same two
same_between : (from until q x : Key) → key_cmp q x ≡ Equal → is_between from until x ≡ is_between from until q
same_between from until q x e = ap (is_between from until) (sym (keys_exact q x e))

-- what a range has at a key
pub find-entries : (g : Graph) (from until q : Key) → find key_cmp q (entries_of g from until) ≡ cond (is_between from until q) (value_at g q) None
find-entries g from until q =
    find-where_key key_cmp (is_between from until) q (same_between from until q) (fin_map.entries (row_map g))
    ∙ ap (λ x. cond (is_between from until q) x None) (sym (fin_map.get-entries (row_map g) q) ∙ get-row_map g q)

between_of_found : (b : Bool) (x : Option ℕ) (w : ℕ) → cond b x None ≡ Some w → (b ≡ true) × (x ≡ Some w)
between_of_found true x w e = (refl, e)
between_of_found false x w e = cc

module _ (g : Graph) (from until : Key) where
  -- the rows of a range rise
  pub rows_rise_between : (i j : ℕ) (a b : Row) → i < j → slice_get (rows g from until) i ≡ Some a → slice_get (rows g from until) j ≡ Some b → IsTrue (is_below a.key b.key)
  rows_rise_between i j a b lt at_i at_j =
      let ea = map_at row_of (entries_of g from until) i a at_i in
      let eb = map_at row_of (entries_of g from until) j b at_j in
      let less = rises key_cmp keys_total (entries_of g from until) (entries_sorted g from until) i j ea.0 eb.0 lt ea.1 eb.1 in
      subst (λ (r : Row). IsTrue (is_below r.key b.key)) ea.2 (subst (λ (r : Row). IsTrue (is_below ea.0.0 r.key)) eb.2 (ap is_lt less))

  -- a row of a range is what the graph has at its key, which lies in the range
  pub row_is_between : (i : ℕ) (r : Row) → slice_get (rows g from until) i ≡ Some r → IsTrue (is_between from until r.key) × (value_at g r.key ≡ Some r.weight)
  row_is_between i r at_i =
      let e = map_at row_of (entries_of g from until) i r at_i in
      let is = sym (find-entries g from until e.0.0) ∙ found key_cmp keys_total (entries_of g from until) (entries_sorted g from until) i e.0 e.1 in
      let parts = between_of_found _ _ _ is in
      subst (λ (r : Row). IsTrue (is_between from until r.key) × (value_at g r.key ≡ Some r.weight)) e.2 parts

  -- what the graph has at a key of the range stands among its rows
  pub row_at_between : (key : Key) (w : ℕ) → IsTrue (is_between from until key) → value_at g key ≡ Some w → (i : ℕ) × (slice_get (rows g from until) i ≡ Some (record { key = key; weight = w }))
  row_at_between key w between is =
      let here : find key_cmp key (entries_of g from until) ≡ Some w = find-entries g from until key ∙ ap (λ b. cond b (value_at g key) None) between ∙ is in
      let place = place_of key_cmp keys_total keys_exact (entries_of g from until) key w here in
      (place.0, slice_get-map row_of (entries_of g from until) place.0 ∙ ap (option_map row_of) place.1)

  -- a sorted list with the graph's value at each key of the range is its rows
  pub rows_of_values : (es : List (Key × ℕ)) → is_sorted key_cmp es ≡ true → ((q : Key) → find key_cmp q es ≡ cond (is_between from until q) (value_at g q) None) → map row_of es ≡ rows g from until
  rows_of_values es sorted values =
      ap (map row_of) (same_entries key_cmp keys_total keys_exact es (entries_of g from until) (T_from_true _ sorted) (T_from_true _ (entries_sorted g from until))
      (λ q. values q ∙ sym (find-entries g from until q)))

-- no key is below the first
first_least : (src second : ℕ) → is_below (record { src = src; second = second }) first_key ≡ false
first_least src second = grind (arith, nat_tests)

-- the key of an id within its limit is below the end
below_end : (src second : ℕ) → src ≤ MAX_ID → is_below (record { src = src; second = second }) end_key ≡ true
below_end src second within = grind (arith, nat_tests)

source_of : (z m : Bool) (x : Option ℕ) (w : ℕ) → cond z (cond m (Some 0) None) x ≡ Some w → m ≡ false → x ≡ Some w
source_of true true x w e off = cc
source_of true false x w e off = cc
source_of false m x w e off = e

some_is : (x : Option ℕ) (w : ℕ) → x ≡ Some w → is_some x ≡ true
some_is x w e = ap is_some e

-- where the graph has something, the source is a vertex
pub has_source : (g : Graph) (key : Key) (w : ℕ) → ((u v : ℕ) → IsTrue (has_arc g u v) → IsTrue (has_vertex g u) × IsTrue (has_vertex g v)) → value_at g key ≡ Some w → has_vertex g key.src ≡ true
has_source g key w ends is =
    elim (has_vertex g key.src) as (λ b. has_vertex g key.src ≡ b → b ≡ true) [
      | true ↦ λ _. refl
      | false ↦ λ off. absurd (
          let arc : weight_of g key.src (key.second - 1) ≡ Some w = source_of (key.second == 0) (has_vertex g key.src) (weight_of g key.src (key.second - 1)) w is off in
          let t : true ≡ false = sym (ends key.src (key.second - 1) (some_is _ w arc)).0 ∙ off in cc)
    ] refl

module _ {rows : List Row} {g : Graph} (are : AreRowsOf rows g) where
  pub rows_rise : (i j : ℕ) (a b : Row) → i < j → slice_get rows i ≡ Some a → slice_get rows j ≡ Some b → IsTrue (is_below a.key b.key)
  rows_rise i j a b lt at_i at_j =
      rows_rise_between g first_key end_key i j a b lt (ap (λ rs. slice_get rs i) (sym are.listed) ∙ at_i) (ap (λ rs. slice_get rs j) (sym are.listed) ∙ at_j)

  pub row_is : (i : ℕ) (r : Row) → slice_get rows i ≡ Some r → value_at g r.key ≡ Some r.weight
  row_is i r at_i = (row_is_between g first_key end_key i r (ap (λ rs. slice_get rs i) (sym are.listed) ∙ at_i)).1

  pub row_at : (key : Key) (w : ℕ) → value_at g key ≡ Some w → (i : ℕ) × (slice_get rows i ≡ Some (record { key = key; weight = w }))
  row_at key w is =
      let within : key.src ≤ MAX_ID = are.within key.src (has_source g key w are.ends is) in
      let between : is_between first_key end_key key ≡ true = (λ i. not (first_least key.src key.second i) && below_end key.src key.second within i) in
      let place = row_at_between g first_key end_key key w between is in
      (place.0, ap (λ rs. slice_get rs place.0) are.listed ∙ place.1)

-- ---- adjoining ranges

module _ (e_src e_second b_src b_second u_src u_second : ℕ) where
  abbrev first_of : Key
  first_of = record { src = e_src; second = e_second }

  abbrev second_of : Key
  second_of = record { src = b_src; second = b_second }

  abbrev third_of : Key
  third_of = record { src = u_src; second = u_second }

  below_through : is_below first_of second_of ≡ true → is_below third_of second_of ≡ false → is_below first_of third_of ≡ true
  below_through p q = grind (arith, nat_tests)

  not_below_through : is_below first_of second_of ≡ false → is_below second_of third_of ≡ false → is_below first_of third_of ≡ false
  not_below_through p q = grind (arith, nat_tests)

  not_below_later : is_below first_of second_of ≡ true → is_below first_of third_of ≡ false → is_below second_of third_of ≡ false
  not_below_later p q = grind (arith, nat_tests)

module _ {X : Type 0} (from between until : Key) (low : is_below between from ≡ false) (high : is_below until between ≡ false) where
  abbrev in_front : Key × X → Bool
  in_front e = is_between from between e.0

  abbrev behind : Key × X → Bool
  behind e = is_between between until e.0

  abbrev in_both : Key × X → Bool
  in_both e = is_between from until e.0

  -- from the middle key on
  filter_behind : (es : List (Key × X)) → list_any (λ e. is_below e.0 between) es ≡ false → (filter in_front es ≡ []) × (filter behind es ≡ filter in_both es)
  filter_behind [] none = (refl, refl)
  filter_behind (e ∷ es) none =
      let parts : (is_below e.0 between ≡ false) × (list_any (λ (e : Key × X). is_below e.0 between) es ≡ false) = neither_of (is_below e.0 between) _ none in
      let rest = filter_behind es parts.1 in
      let after : is_below e.0 from ≡ false = not_below_through e.0.src e.0.second between.src between.second from.src from.second parts.0 low in
      let not_front : in_front e ≡ false = and_off (not (is_below e.0 from)) (is_below e.0 between) parts.0 in
      let same : behind e ≡ in_both e = (λ i. not ((parts.0 ∙ sym after) i) && is_below e.0 until) in
      (ap (λ t. cond t (e ∷ filter in_front es) (filter in_front es)) not_front ∙ rest.0, λ i. cond (same i) (e ∷ rest.1 i) (rest.1 i))
    where
      neither_of : (s t : Bool) → (s || t) ≡ false → (s ≡ false) × (t ≡ false)
      neither_of true t e = cc
      neither_of false t e = (refl, e)

      and_off : (s t : Bool) → t ≡ false → (s && t) ≡ false
      and_off true t e = e
      and_off false t e = refl

  none_later : (e : Key × X) (es : List (Key × X)) → below_all key_cmp e.0 es ≡ true → is_below e.0 between ≡ false → list_any (λ (f : Key × X). is_below f.0 between) es ≡ false
  none_later e [] below off = refl
  none_later e (f ∷ es) below off =
      let parts = both_true (is_lt (key_cmp e.0 f.0)) _ below in
      (λ i. not_below_later e.0.src e.0.second f.0.src f.0.second between.src between.second parts.0 off i || none_later e es parts.1 off i)

  pub filters_adjoin : (es : List (Key × X)) → is_sorted key_cmp es ≡ true → filter in_front es ++ filter behind es ≡ filter in_both es
  filters_adjoin [] sorted = refl
  filters_adjoin (e ∷ es) sorted =
      let parts = both_true (below_all key_cmp e.0 es) _ sorted in
      elim (is_below e.0 between) as (λ t. is_below e.0 between ≡ t → filter in_front (e ∷ es) ++ filter behind (e ∷ es) ≡ filter in_both (e ∷ es)) [
        | true ↦ λ t.
            let up : is_below e.0 until ≡ true = below_through e.0.src e.0.second between.src between.second until.src until.second t high in
            let same : in_front e ≡ in_both e = (λ i. not (is_below e.0 from) && (t ∙ sym up) i) in
            let off : behind e ≡ false = (λ i. not (t i) && is_below e.0 until) in
            (λ i. cond (same i) (e ∷ filter in_front es) (filter in_front es) ++ cond (off i) (e ∷ filter behind es) (filter behind es))
            ∙ push_cond (in_both e) e (filter in_front es) (filter behind es)
            ∙ ap (λ fs. cond (in_both e) (e ∷ fs) fs) (filters_adjoin es parts.1)
        | false ↦ λ t.
            let all = filter_behind (e ∷ es) (λ i. t i || none_later e es parts.0 t i) in
            (λ i. all.0 i ++ all.1 i)
      ] refl
    where
      push_cond : (s : Bool) (x : Key × X) (xs ys : List (Key × X)) → cond s (x ∷ xs) xs ++ ys ≡ cond s (x ∷ (xs ++ ys)) (xs ++ ys)
      push_cond true x xs ys = refl
      push_cond false x xs ys = refl

map-both : {A B : Type 0} (f : A → B) (xs ys : List A) → map f (xs ++ ys) ≡ map f xs ++ map f ys
map-both f [] ys = refl
map-both f (x ∷ xs) ys = ap (λ zs. f x ∷ zs) (map-both f xs ys)

pub ranges_adjoin : (g : Graph) (from between until : Key) → is_below between from ≡ false → is_below until between ≡ false → rows g from between ++ rows g between until ≡ rows g from until
ranges_adjoin g from between until low high =
    sym (map-both row_of (entries_of g from between) (entries_of g between until))
    ∙ ap (map row_of) (filters_adjoin from between until low high (fin_map.entries (row_map g)) (true_from_T _ (fin_map.entries_sorted (row_map g))))
