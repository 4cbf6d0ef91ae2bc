-- The rows of a load: each key has one at most, and it has the value of the graph that the load makes.
use Rattle.std.proofs.Common.{◌≡◌, ℕ, suc, ◌+◌, ◌≤◌, List, [], ◌∷◌, ◌++◌, length, slice_index_or, refl, sym, ◌∙◌, ap, cond, arith, Some, None}
use Rattle.std.specs.Prelude.{◌==◌, Bool, true, false, ◌&&◌, ◌||◌, Option, is_some, sum_by}
use Rattle.std.specs.List.{AllByRecursion}
use Rattle.std.specs.List.Sorted.{IsSortedByKey}
use Rattle.std.specs.Ordering.{eq_by_cmp}
use Rattle.std.proofs.lemmas.List.Sums.{sum_by-cons, sum_by-append}
use Rattle.graph_model.specs.declared.row.Key.{Key}
use Rattle.graph_model.specs.declared.row.Row.{Row}
use Rattle.graph_model.specs.declared.write.Kind.{Kind}
use Rattle.graph_model.specs.declared.write.Kind.TheVariants.{Directed, Undirected}
use Rattle.graph_model.specs.declared.write.Write.{Write}
use Rattle.graph_model.specs.declared.write.Write.TheVariants.{AddVertex, DropVertex, AddEdge, SetEdge, DropEdge}
use Rattle.graph_model.specs.declared.refusal.Refusal.{Refusal}
use Rattle.graph_model.specs.declared.refusal.Refusal.TheVariants.{SelfLoop, NoVertex, VertexExists, EdgeExists}
use Rattle.graph_model.specs.Effects.{same_key, writes_at, value_left, value_after}
use Rattle.graph_model.specs.Graph.{Graph, has_vertex, has_arc, weight_of, apply, apply_all, empty_graph}
use Rattle.graph_model.specs.Inserted.{inserted, inserted_by}
use Rattle.graph_model.specs.Loading.{IsAdd}
use Rattle.graph_model.specs.Refused.{refused, unless_ends, AllAllowed, IsWithinLimits}
use Rattle.graph_model.specs.Rows.{key_cmp, is_below, end_key, vertex_key, arc_key, value_at}
use Rattle.graph_model.proofs.EffectLemmas.{value_at-apply, value_at-apply_all}
use Rattle.graph_model.proofs.KeyLemmas.{above_of_not, below_chain}
use Rattle.graph_model.proofs.ViewLemmas.{made_symmetric}
use Rattle.graph_model.proofs.WriteLemmas.{keeps_symmetric}
use Rattle.store_model.proofs.NewLemmas.{value_of_empty}
use Rattle.graph_model.proofs.OrderLemmas.{key_tie}
use Rattle.store_model.specs.Stamped.{forget_row}
use Rattle.txn_manager.specs.declared.config.RoomRefusal.{RoomRefusal}
use Rattle.txn_manager.specs.declared.config.RoomRefusal.TheVariants.{Full, NoMemory}
use Rattle.leaf_store.specs.Leaves.{Leaves, weight}
use Rattle.leaf_store.specs.Changes.{AreRising, AreFilled, IsFillRefusal, settled_at}
use Rattle.leaf_rows.specs.Checks.{FitsKind}
use Rattle.load_order.specs.LoadRows.{row_at, write_rows, load_rows}
use Rattle.load_order.specs.Placings.{AreSame}
use Rattle.load_order.proofs.PlacingLemmas.{same_length}
use Rattle.leaf_rows.specs.Filling.{times, code, code_at}
use Rattle.leaf_rows.specs.Loaded.{AreLoaded, IsLoadTooLarge}
use Rattle.leaf_rows.specs.Readers.{AreUnstamped}
use Rattle.row_writes.proofs.CheckLemmas.{weight_is_value}
use Rattle.row_writes.proofs.KeyLemmas.{arcs_apart, below_end, key_eq, key_self}

-- ---- sums over rows

times_cons : (q : Key) (r : Row) (rs : List Row) → times q (r ∷ rs) ≡ cond (same_key q r.key) 1 0 + times q rs
times_cons q r rs = sum_by-cons (λ r. cond (same_key q r.key) 1 0) r rs

code_cons : (q : Key) (r : Row) (rs : List Row) → code_at q (r ∷ rs) ≡ cond (same_key q r.key) (r.weight + 1) 0 + code_at q rs
code_cons q r rs = sum_by-cons (λ r. cond (same_key q r.key) (r.weight + 1) 0) r rs

code_same : (a b : Option ℕ) → code a ≡ code b → a ≡ b
code_same None None e = refl
code_same None (Some y) e = absurd (omega (arith, e))
code_same (Some x) None e = absurd (omega (arith, e))
code_same (Some x) (Some y) e = let same : x ≡ y = omega (arith, e) in ap Some same

-- ---- one write of a load

no_vertex : (t : Bool) → ◌≡◌ {A = Option Refusal} (cond t (Some VertexExists) None) None → t ≡ false
no_vertex true e = cc
no_vertex false e = refl

record EdgeAllowed (g : Graph) (u v : ℕ) : Type 0 where
  pub apart : (u == v) ≡ false
  pub none : has_arc g u v ≡ false

edge_allowed : (g : Graph) (u v : ℕ) → unless_ends g u v (cond (has_arc g u v) (Some EdgeExists) None) ≡ None → EdgeAllowed g u v
edge_allowed g u v e = let h = go (u == v) (has_vertex g u) (has_vertex g v) (has_arc g u v) e in record { apart = h.0; none = h.1 }
  where
    go : (a b c d : Bool) → ◌≡◌ {A = Option Refusal} (cond a (Some SelfLoop) (cond b (cond c (cond d (Some EdgeExists) None) (Some (NoVertex v))) (Some (NoVertex u)))) None → (a ≡ false) × (d ≡ false)
    go true b c d h = cc
    go false false c d h = cc
    go false true false d h = cc
    go false true true true h = cc
    go false true true false h = (refl, refl)

no_weight : (x : Option ℕ) → is_some x ≡ false → x ≡ None
no_weight None e = refl
no_weight (Some w) e = cc

-- what an allowed write adds wasn't there
adds_new : (kind : Kind) (g : Graph) (w : Write) → FitsKind kind g → IsAdd w → refused g w ≡ None → (q : Key) → writes_at kind w q ≡ true → value_at g q ≡ None
adds_new kind g (AddVertex v) fits add allowed q e = go (same_key q (vertex_key v)) refl e
  where
    go : (t : Bool) → same_key q (vertex_key v) ≡ t → (t || false) ≡ true → value_at g q ≡ None
    go true f h = ap (value_at g) (key_eq q (vertex_key v) f) ∙ ap (λ t. cond t (Some 0) None) (no_vertex (has_vertex g v) allowed)
    go false f h = cc
adds_new kind g (DropVertex v) fits add allowed q e = absurd add
adds_new Directed g (AddEdge u v weight) fits add allowed q e = go (same_key q (arc_key u v)) refl e
  where
    edge : EdgeAllowed g u v
    edge = edge_allowed g u v allowed

    go : (t : Bool) → same_key q (arc_key u v) ≡ t → (t || false) ≡ true → value_at g q ≡ None
    go true f h = ap (value_at g) (key_eq q (arc_key u v) f) ∙ weight_is_value g u v ∙ no_weight (weight_of g u v) edge.none
    go false f h = cc
adds_new Undirected g (AddEdge u v weight) fits add allowed q e = go (same_key q (arc_key v u)) (same_key q (arc_key u v)) refl refl e
  where
    edge : EdgeAllowed g u v
    edge = edge_allowed g u v allowed

    go : (s t : Bool) → same_key q (arc_key v u) ≡ s → same_key q (arc_key u v) ≡ t → (s || (t || false)) ≡ true → value_at g q ≡ None
    go true t f h i = ap (value_at g) (key_eq q (arc_key v u) f) ∙ weight_is_value g v u ∙ fits v u ∙ no_weight (weight_of g u v) edge.none
    go false true f h i = ap (value_at g) (key_eq q (arc_key u v) h) ∙ weight_is_value g u v ∙ no_weight (weight_of g u v) edge.none
    go false false f h i = cc
adds_new kind g (SetEdge u v weight) fits add allowed q e = absurd add
adds_new kind g (DropEdge u v) fits add allowed q e = absurd add

-- its rows are those that it writes, once each
record RowsOf (q : Key) (rows : List Row) (writes : Bool) (left : Option ℕ) : Type 0 where
  pub number : times q rows ≡ cond writes 1 0
  pub coded : code_at q rows ≡ cond writes (code left) 0

one_row : (q key : Key) (w : ℕ) → RowsOf q (row_at key w ∷ []) (same_key q key || false) (Some w)
one_row q key w = record {
  number = let h = times_cons q (row_at key w) [] in let e = once (same_key q key) in omega (arith, h, e);
  coded = let h = code_cons q (row_at key w) [] in let e = coded (same_key q key) in omega (arith, h, e);
}
  where
    once : (t : Bool) → ◌≡◌ {A = ℕ} (cond (t || false) 1 0) (cond t 1 0)
    once true = refl
    once false = refl

    coded : (t : Bool) → ◌≡◌ {A = ℕ} (cond (t || false) (w + 1) 0) (cond t (w + 1) 0)
    coded true = refl
    coded false = refl

rows_of : (kind : Kind) (g : Graph) (w : Write) → IsAdd w → refused g w ≡ None → (q : Key) → RowsOf q (write_rows kind w) (writes_at kind w q) (value_left w)
rows_of kind g (AddVertex v) add allowed q = one_row q (vertex_key v) 0
rows_of kind g (DropVertex v) add allowed q = absurd add
rows_of Directed g (AddEdge u v weight) add allowed q = one_row q (arc_key u v) weight
rows_of Undirected g (AddEdge u v weight) add allowed q = record {
  number = let a = times_cons q (row_at (arc_key u v) weight) (row_at (arc_key v u) weight ∷ []) in let b = times_cons q (row_at (arc_key v u) weight) [] in let e = once (same_key q (arc_key v u)) (same_key q (arc_key u v)) apart in omega (arith, a, b, e);
  coded = let a = code_cons q (row_at (arc_key u v) weight) (row_at (arc_key v u) weight ∷ []) in let b = code_cons q (row_at (arc_key v u) weight) [] in let e = coded (same_key q (arc_key v u)) (same_key q (arc_key u v)) apart in omega (arith, a, b, e);
}
  where
    apart : (same_key q (arc_key v u) && same_key q (arc_key u v)) ≡ false
    apart = arcs_apart u v q (edge_allowed g u v allowed).apart

    once : (s t : Bool) → (s && t) ≡ false → ◌≡◌ {A = ℕ} (cond (s || (t || false)) 1 0) (cond t 1 0 + cond s 1 0)
    once true true e = cc
    once true false e = omega arith
    once false true e = omega arith
    once false false e = omega arith

    coded : (s t : Bool) → (s && t) ≡ false → ◌≡◌ {A = ℕ} (cond (s || (t || false)) (weight + 1) 0) (cond t (weight + 1) 0 + cond s (weight + 1) 0)
    coded true true e = cc
    coded true false e = omega arith
    coded false true e = omega arith
    coded false false e = omega arith
rows_of kind g (SetEdge u v weight) add allowed q = absurd add
rows_of kind g (DropEdge u v) add allowed q = absurd add

-- ---- a whole load

fits_on : (kind : Kind) (g : Graph) (w : Write) → FitsKind kind g → FitsKind kind (apply kind g w)
fits_on Directed g w fits = tt
fits_on Undirected g w fits = keeps_symmetric g w fits

-- a key has one row at most, and none where the graph had a value; with that it has the value of the graph that the load makes
record RowsAt (kind : Kind) (g : Graph) (ws : List Write) (q : Key) : Type 0 where
  pub number : times q (load_rows kind ws) + cond (is_some (value_at g q)) 1 0 ≤ 1
  pub coded : code (value_after kind ws q (value_at g q)) ≡ code (value_at g q) + code_at q (load_rows kind ws)

rows_at_key : (kind : Kind) (g : Graph) (ws : List Write) → FitsKind kind g → AllByRecursion IsAdd ws → AllAllowed kind g ws → (q : Key) → RowsAt kind g ws q
rows_at_key kind g [] fits adds allowed q = record { number = few (is_some (value_at g q)); coded = omega arith }
  where
    few : (t : Bool) → 0 + cond {A = ℕ} t 1 0 ≤ 1
    few true = omega arith
    few false = omega arith
rows_at_key kind g (w ∷ ws) fits adds allowed q =
    go (writes_at kind w q) refl (value_at-apply kind g w q) (rows_at_key kind (apply kind g w) ws (fits_on kind g w fits) adds.1 allowed.1 q) (rows_of kind g w adds.0 allowed.0 q)
  where
    more : times q (load_rows kind (w ∷ ws)) ≡ times q (write_rows kind w) + times q (load_rows kind ws)
    more = sum_by-append (λ r. cond (same_key q r.key) 1 0) (write_rows kind w) (load_rows kind ws)

    more_code : code_at q (load_rows kind (w ∷ ws)) ≡ code_at q (write_rows kind w) + code_at q (load_rows kind ws)
    more_code = sum_by-append (λ r. cond (same_key q r.key) (r.weight + 1) 0) (write_rows kind w) (load_rows kind ws)

    left_some : (w : Write) → IsAdd w → is_some (value_left w) ≡ true
    left_some (AddVertex v) add = refl
    left_some (DropVertex v) add = absurd add
    left_some (AddEdge u v weight) add = refl
    left_some (SetEdge u v weight) add = absurd add
    left_some (DropEdge u v) add = absurd add

    go : (t : Bool) → writes_at kind w q ≡ t → value_at (apply kind g w) q ≡ cond (writes_at kind w q) (value_left w) (value_at g q) → RowsAt kind (apply kind g w) ws q
        → RowsOf q (write_rows kind w) (writes_at kind w q) (value_left w) → RowsAt kind g (w ∷ ws) q
    go true e step rest here =
        let none : value_at g q ≡ None = adds_new kind g w fits adds.0 allowed.0 q e in
        let now : value_at (apply kind g w) q ≡ value_left w = step ∙ ap (λ t. cond t (value_left w) (value_at g q)) e in
        let one : times q (write_rows kind w) ≡ 1 = here.number ∙ ap (λ t. cond t 1 0) e in
        let coded : code_at q (write_rows kind w) ≡ code (value_left w) = here.coded ∙ ap (λ t. cond t (code (value_left w)) 0) e in
        let some : ◌≡◌ {A = ℕ} (cond (is_some (value_at (apply kind g w) q)) 1 0) 1 = ap (λ x. cond (is_some x) 1 0) now ∙ ap (λ t. cond t 1 0) (left_some w adds.0) in
        let gone : ◌≡◌ {A = ℕ} (cond (is_some (value_at g q)) 1 0) 0 = ap (λ x. cond (is_some x) 1 0) none in
        let zero_code : code (value_at g q) ≡ 0 = ap code none in
        let after : code (value_after kind (w ∷ ws) q (value_at g q)) ≡ code (value_after kind ws q (value_at (apply kind g w) q)) = ap (λ x. code (value_after kind ws q x)) (sym step) in
        let now_code : code (value_at (apply kind g w) q) ≡ code (value_left w) = ap code now in
        let t = rest.number in
        let d = rest.coded in
        record { number = omega (arith, more, one, some, gone, t); coded = omega (arith, more_code, coded, zero_code, after, now_code, d) }
    go false e step rest here =
        let now : value_at (apply kind g w) q ≡ value_at g q = step ∙ ap (λ t. cond t (value_left w) (value_at g q)) e in
        let none : times q (write_rows kind w) ≡ 0 = here.number ∙ ap (λ t. cond t 1 0) e in
        let coded : code_at q (write_rows kind w) ≡ 0 = here.coded ∙ ap (λ t. cond t (code (value_left w)) 0) e in
        let same : ◌≡◌ {A = ℕ} (cond (is_some (value_at (apply kind g w) q)) 1 0) (cond (is_some (value_at g q)) 1 0) = ap (λ x. cond (is_some x) 1 0) now in
        let after : code (value_after kind (w ∷ ws) q (value_at g q)) ≡ code (value_after kind ws q (value_at (apply kind g w) q)) = ap (λ x. code (value_after kind ws q x)) (sym step) in
        let now_code : code (value_at (apply kind g w) q) ≡ code (value_at g q) = ap code now in
        let t = rest.number in
        let d = rest.coded in
        record { number = omega (arith, more, none, same, t); coded = omega (arith, more_code, coded, after, now_code, d) }

-- so many rows it has
pub rows_counted : (kind : Kind) (ws : List Write) → AllByRecursion IsAdd ws → length (load_rows kind ws) ≡ inserted kind ws
rows_counted kind [] adds = refl
rows_counted kind (w ∷ ws) adds =
    let rest = rows_counted kind ws adds.1 in
    let here = one kind w adds.0 in
    let both = length_of_both (write_rows kind w) (load_rows kind ws) in
    let sum = sum_by-cons (inserted_by kind) w ws in
    omega (arith, rest, here, both, sum)
  where
    length_of_both : (xs ys : List Row) → length (xs ++ ys) ≡ length xs + length ys
    length_of_both [] ys = omega arith
    length_of_both (x ∷ xs) ys = let h = length_of_both xs ys in omega (arith, h)

    one : (kind : Kind) (w : Write) → IsAdd w → length (write_rows kind w) ≡ inserted_by kind w
    one kind (AddVertex v) add = refl
    one kind (DropVertex v) add = absurd add
    one Directed (AddEdge u v weight) add = refl
    one Undirected (AddEdge u v weight) add = refl
    one kind (SetEdge u v weight) add = absurd add
    one kind (DropEdge u v) add = absurd add

-- ---- in the order of their keys

-- no row has a key that isn't below the last one
none_beyond_end : (kind : Kind) (ws : List Write) → AllByRecursion IsWithinLimits ws → sum_by (λ r. cond (is_below r.key end_key) 0 1) (load_rows kind ws) ≡ 0
none_beyond_end kind [] within = refl
none_beyond_end kind (w ∷ ws) within =
    let rest = none_beyond_end kind ws within.1 in
    let here = one kind w within.0 in
    let both = sum_by-append (λ (r : Row). cond (is_below r.key end_key) 0 1) (write_rows kind w) (load_rows kind ws) in
    omega (arith, rest, here, both)
  where
    each : (key : Key) → is_below key end_key ≡ true → ◌≡◌ {A = ℕ} (cond (is_below key end_key) 0 1) 0
    each key e = ap (λ t. cond t 0 1) e

    one : (kind : Kind) (w : Write) → IsWithinLimits w → sum_by (λ r. cond (is_below r.key end_key) 0 1) (write_rows kind w) ≡ 0
    one kind (AddVertex v) within = let a = each (vertex_key v) (below_end v 0 within) in omega (arith, a)
    one kind (DropVertex v) within = refl
    one Directed (AddEdge u v weight) within = let a = each (arc_key u v) (below_end u (v + 1) within.0) in omega (arith, a)
    one Undirected (AddEdge u v weight) within = let a = each (arc_key u v) (below_end u (v + 1) within.0) in let b = each (arc_key v u) (below_end v (u + 1) within.1) in omega (arith, a, b)
    one kind (SetEdge u v weight) within = refl
    one kind (DropEdge u v) within = refl

-- rows in the order of their keys, each key once, rise
rising_of : (rs : List Row) → IsSortedByKey (λ (r : Row). r.key) key_cmp rs → ((q : Key) → times q rs ≤ 1) → sum_by (λ r. cond (is_below r.key end_key) 0 1) rs ≡ 0 → AreRising rs
rising_of [] sorted once within = tt
rising_of (r ∷ rs) sorted once within =
    let sum = sum_by-cons (λ (x : Row). cond (is_below x.key end_key) 0 1) r rs in
    let rest : sum_by (λ x. cond (is_below x.key end_key) 0 1) rs ≡ 0 = omega (arith, sum, within) in
    let here : ◌≡◌ {A = ℕ} (cond (is_below r.key end_key) 0 1) 0 = omega (arith, sum, within) in
    let tail = rising_of rs (λ k d low lt. shifted k d (sorted (k + 1) d (omega arith) (omega (arith, lt)))) (λ q. fewer q (once q)) rest in
    (below_it (is_below r.key end_key) here, above rs tail refl, tail)
  where
    below_it : (t : Bool) → ◌≡◌ {A = ℕ} (cond t 0 1) 0 → t ≡ true
    below_it true e = refl
    below_it false e = absurd (omega (arith, e))

    shift : (n : ℕ) (d : Row) → slice_index_or (r ∷ rs) (n + 1) d ≡ slice_index_or rs n d
    shift n d = let e : n + 1 ≡ suc n = omega arith in rw e refl

    shifted : (k : ℕ) (d : Row) → is_below (slice_index_or (r ∷ rs) (k + 1 + 1) d).key (slice_index_or (r ∷ rs) (k + 1) d).key ≡ false → is_below (slice_index_or rs (k + 1) d).key (slice_index_or rs k d).key ≡ false
    shifted k d h = (λ i. is_below (sym (shift (k + 1) d) i).key (sym (shift k d) i).key) ∙ h

    fewer : (q : Key) → times q (r ∷ rs) ≤ 1 → times q rs ≤ 1
    fewer q h = let e = times_cons q r rs in omega (arith, e, h)

    -- the next row's key is another one, and not below
    next : (x : Row) (xs : List Row) → rs ≡ x ∷ xs → is_below r.key x.key ≡ true
    next x xs is = above_of_not x.key r.key in_order differ
      where
        in_order : is_below x.key r.key ≡ false
        in_order = sym (ap (λ ys. is_below (slice_index_or (r ∷ ys) 1 r).key r.key) is) ∙ sorted 0 r (omega arith) (rw is (omega arith))

        differ : x.key ≡ r.key → ⊥
        differ same =
            let a = times_cons r.key r rs in
            let b : times r.key rs ≡ cond (same_key r.key x.key) 1 0 + times r.key xs = ap (times r.key) is ∙ times_cons r.key x xs in
            let c : ◌≡◌ {A = ℕ} (cond (same_key r.key r.key) 1 0) 1 = ap (λ t. cond t 1 0) (key_self r.key) in
            let e : ◌≡◌ {A = ℕ} (cond (same_key r.key x.key) 1 0) 1 = ap (λ k. cond (same_key r.key k) 1 0) same ∙ c in
            let h = once r.key in
            omega (arith, a, b, c, e, h)

    chain : (x : Key) (ys : List Row) → is_below r.key x ≡ true → AllByRecursion (λ y. is_below x y.key ≡ true) ys → AllByRecursion (λ y. is_below r.key y.key ≡ true) ys
    chain x [] below all = tt
    chain x (y ∷ ys) below all = (below_chain r.key x y.key below all.0, chain x ys below all.1)

    above : (ys : List Row) → AreRising ys → rs ≡ ys → AllByRecursion (λ y. is_below r.key y.key ≡ true) ys
    above [] rising is = tt
    above (y ∷ ys) rising is = (next y ys is, chain y.key ys (next y ys is) rising.1)

module _ (kind : Kind) (load : List Write) (rs : List Row) (adds : AllByRecursion IsAdd load) (within : AllByRecursion IsWithinLimits load) (allowed : AllAllowed kind empty_graph load)
    (same : AreSame (load_rows kind load) rs) where
  abbrev start : (q : Key) → RowsAt kind empty_graph load q
  start q = rows_at_key kind empty_graph load (fits_empty kind) adds allowed q
    where
      fits_empty : (kind : Kind) → FitsKind kind empty_graph
      fits_empty Directed = tt
      fits_empty Undirected = made_symmetric []

  pub once : (q : Key) → times q rs ≤ 1
  once q =
      let moved = same (λ (r : Row). cond (same_key q r.key) 1 0) in
      let h = (start q).number in
      omega (arith, moved, h)

  pub load_rises : IsSortedByKey (λ (r : Row). r.key) key_cmp rs → AreRising rs
  load_rises sorted =
      rising_of rs sorted once (same (λ (r : Row). cond (is_below r.key end_key) 0 1) ∙ none_beyond_end kind load within)

  -- what the rows have, as settled versions
  coded : (q : Key) (xs : List Row) → times q xs ≤ 1 → code (settled_at xs q).oldest ≡ code_at q xs
  coded q [] few = refl
  coded q (x ∷ xs) few = go (same_key q x.key) refl (λ h. coded q xs h)
    where
      absent : (ys : List Row) → times q ys ≡ 0 → code_at q ys ≡ 0
      absent [] e = refl
      absent (y ∷ ys) e =
          let a = times_cons q y ys in
          let b = code_cons q y ys in
          let rest = absent ys (omega (arith, a, e)) in
          let here = off (same_key q y.key) (omega (arith, a, e)) in
          omega (arith, b, rest, here)
        where
          off : (t : Bool) → ◌≡◌ {A = ℕ} (cond t 1 0) 0 → ◌≡◌ {A = ℕ} (cond t (y.weight + 1) 0) 0
          off true e = absurd (omega (arith, e))
          off false e = refl

      go : (t : Bool) → same_key q x.key ≡ t → (times q xs ≤ 1 → code (settled_at xs q).oldest ≡ code_at q xs) → code (settled_at (x ∷ xs) q).oldest ≡ code_at q (x ∷ xs)
      go true e rest =
          let a : ◌≡◌ {A = ℕ} (cond (same_key q x.key) 1 0) 1 = ap (λ t. cond t 1 0) e in
          let b : ◌≡◌ {A = ℕ} (cond (same_key q x.key) (x.weight + 1) 0) (x.weight + 1) = ap (λ t. cond t (x.weight + 1) 0) e in
          let c = times_cons q x xs in
          let d = code_cons q x xs in
          let none = absent xs (omega (arith, a, c, few)) in
          let here : code (settled_at (x ∷ xs) q).oldest ≡ x.weight + 1 = ap (λ t. code (cond t (record { pairs = []; oldest = Some x.weight; touches = [] }) (settled_at xs q)).oldest) (key_tie q x.key ∙ e) in
          omega (arith, b, d, none, here)
      go false e rest =
          let a : ◌≡◌ {A = ℕ} (cond (same_key q x.key) 1 0) 0 = ap (λ t. cond t 1 0) e in
          let b : ◌≡◌ {A = ℕ} (cond (same_key q x.key) (x.weight + 1) 0) 0 = ap (λ t. cond t (x.weight + 1) 0) e in
          let c = times_cons q x xs in
          let d = code_cons q x xs in
          let h = rest (omega (arith, a, c, few)) in
          let here : code (settled_at (x ∷ xs) q).oldest ≡ code (settled_at xs q).oldest = ap (λ t. code (cond t (record { pairs = []; oldest = Some x.weight; touches = [] }) (settled_at xs q)).oldest) (key_tie q x.key ∙ e) in
          omega (arith, b, d, h, here)

  -- is the value of the graph that the load makes
  pub value_settled : (q : Key) → (settled_at rs q).oldest ≡ value_at (apply_all kind empty_graph load) q
  value_settled q =
      let here = coded q rs (once q) in
      let moved = same (λ (r : Row). cond (same_key q r.key) (r.weight + 1) 0) in
      let made = (start q).coded in
      let none : code (value_at empty_graph q) ≡ 0 = ap code (value_of_empty q) in
      let after : code (value_at (apply_all kind empty_graph load) q) ≡ code (value_after kind load q (value_at empty_graph q)) = ap code (value_at-apply_all kind empty_graph load q) in
      code_same (settled_at rs q).oldest (value_at (apply_all kind empty_graph load) q) (omega (arith, here, moved, made, none, after))

  pub bare : (xs : List Row) (q : Key) → settled_at xs q ≡ record { pairs = []; oldest = (settled_at xs q).oldest; touches = [] }
  bare [] q = refl
  bare (x ∷ xs) q = go (eq_by_cmp key_cmp q x.key) (bare xs q)
    where
      go : (t : Bool) → settled_at xs q ≡ record { pairs = []; oldest = (settled_at xs q).oldest; touches = [] }
          → cond t (record { pairs = []; oldest = Some x.weight; touches = [] }) (settled_at xs q) ≡ record { pairs = []; oldest = (cond t (record { pairs = []; oldest = Some x.weight; touches = [] }) (settled_at xs q)).oldest; touches = [] }
      go true rest = refl
      go false rest = rest

  module _ (limit : ℕ) (s : Leaves) (filled : AreFilled limit rs s) where
    pub filled_loads : AreLoaded limit (apply_all kind empty_graph load) (inserted kind load) s
    filled_loads = record {
      settled = λ q. ap forget_row (filled.versions q ∙ bare rs q) ∙ ap (λ x. record { pairs = []; oldest = x; touches = [] }) (value_settled q);
      limit = filled.limit_is;
      weight = let a = filled.weight in let b = counted_rows in omega (arith, a, b);
      retired = filled.retired;
    }
      where
        counted_rows : length rs ≡ inserted kind load
        counted_rows = same_length (load_rows kind load) rs same ∙ rows_counted kind load adds

    pub filled_unstamped : AreUnstamped s
    filled_unstamped = record { pairs = λ q. rw (filled.versions q ∙ bare rs q) tt; touches = λ q. rw (filled.versions q ∙ bare rs q) tt }

  pub refusal_loads : (limit : ℕ) (refusal : RoomRefusal) → IsFillRefusal limit rs refusal → IsLoadTooLarge limit (inserted kind load) refusal
  refusal_loads limit (Full leaves) why = (why.0, let a = why.1 in let b = same_length (load_rows kind load) rs same ∙ rows_counted kind load adds in omega (arith, a, b))
  refusal_loads limit NoMemory why = tt
