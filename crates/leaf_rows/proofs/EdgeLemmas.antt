-- Whether a vertex has edges, by the rows of key ranges.
use Rattle.std.proofs.Common.{◌≡◌, ℕ, ◌+◌, ◌-◌, zero, suc, List, [], ◌∷◌, ◌++◌, refl, sym, ◌∙◌, ap, cond, arith, inl, inr}
use Rattle.std.specs.Prelude.{Bool, true, false, ◌||◌, ◌==◌, ◌⊎◌, not, length, Option, Some, None, slice_get}
use Rattle.std.specs.List.{list_any}
use Rattle.std.proofs.lemmas.Bool.Decides.{nat_tests}
use Rattle.graph_model.specs.declared.row.Key.{Key}
use Rattle.graph_model.specs.declared.row.Row.{Row}
use Rattle.graph_model.specs.declared.journal.TxnName.{TxnName}
use Rattle.graph_model.specs.Graph.{Graph, has_vertex, weight_of, has_edges, IsSymmetric}
use Rattle.graph_model.specs.Rows.{is_below, is_between, first_key, end_key, vertex_key, arc_key, value_at, rows}
use Rattle.graph_model.proofs.GraphLemmas.{no_edges, has_no_edges}
use Rattle.graph_model.proofs.KeyLemmas.{below_self, below_flip, between_parts, between_of}
use Rattle.graph_model.proofs.RowLemmas.{row_is_between, row_at_between, ranges_adjoin}
use Rattle.graph_model.proofs.TestLemmas.{either_of, eq_of, self_eq, never}
use Rattle.store_model.specs.Versions.{read}
use Rattle.store_model.specs.Stamped.{forget_row}
use Rattle.undo_chain.specs.declared.states.Snapshot.{Snapshot}
use Rattle.row_writes.specs.VersionSegment.Rows.{VersionedRows, versions_at}
use Rattle.leaf_store.specs.Leaves.{Leaves, AreLeaves, cells_of, cell_at}
use Rattle.row_writes.proofs.CheckLemmas.{not_zero, weight_is_value}
use Rattle.leaf_rows.specs.Runs.{ShowsBy, lesser, run_end, has_second}
use Rattle.leaf_rows.proofs.ScanLemmas.{none_beyond, below_lesser}

-- ---- rows of adjoining ranges

pub any_append : {X : Type 0} (p : X → Bool) (xs ys : List X) → list_any p (xs ++ ys) ≡ (list_any p xs || list_any p ys)
any_append p [] ys = refl
any_append p (x ∷ xs) ys = elim (p x) as (λ t. (t || list_any p (xs ++ ys)) ≡ ((t || list_any p xs) || list_any p ys)) [ true ↦ refl | false ↦ any_append p xs ys ]

pub lesser_within : (a b : Key) → is_below b (lesser a b) ≡ false
lesser_within a b = go (is_below a b) refl
  where
    go : (t : Bool) → is_below a b ≡ t → is_below b (cond t a b) ≡ false
    go true e = grind (arith, nat_tests)
    go false e = below_self b

-- a run ends behind the key where it begins
pub run_goes_on : (s : Leaves) (key until end : Key) → is_below key until ≡ true → is_between (cell_at s key).low (cell_at s key).high key ≡ true → end ≡ run_end s key until → is_below end key ≡ false
run_goes_on s key until end below holds is =
    rw is (below_flip key (run_end s key until) (below_lesser key (cell_at s key).high until (between_parts (cell_at s key).low (cell_at s key).high key holds).1 below))

-- a range goes on to the end of a run
pub any_on : (p : Row → Bool) (g : Graph) (from next end : Key) → is_below next from ≡ false → is_below end next ≡ false → list_any p (rows g from next) ≡ false
    → list_any p (rows g from end) ≡ list_any p (rows g next end)
any_on p g from next end behind onward none =
    ap (list_any p) (sym (ranges_adjoin g from next end behind onward)) ∙ any_append p (rows g from next) (rows g next end) ∙ ap (λ t. t || list_any p (rows g next end)) none

-- and behind it, where something was found in it
pub any_in : (p : Row → Bool) (g : Graph) (from end until : Key) → is_below end from ≡ false → is_below until end ≡ false → list_any p (rows g from end) ≡ true
    → list_any p (rows g from until) ≡ true
any_in p g from end until behind onward some =
    ap (list_any p) (sym (ranges_adjoin g from end until behind onward)) ∙ any_append p (rows g from end) (rows g end until) ∙ ap (λ t. t || list_any p (rows g end until)) some

-- ---- rows and arcs

-- an element that passes a test, by its place
any_at : {X : Type 0} (p : X → Bool) (xs : List X) → list_any p xs ≡ true → (i : ℕ) × (x : X) × (slice_get xs i ≡ Some x) × (p x ≡ true)
any_at p [] e = cc
any_at p (x ∷ xs) e = elim (p x) as (λ t. p x ≡ t → (i : ℕ) × (y : _) × (slice_get (x ∷ xs) i ≡ Some y) × (p y ≡ true)) [
  | true ↦ λ pass. (0, x, refl, pass)
  | false ↦ λ fail. let rest = any_at p xs (ap (λ t. t || list_any p xs) (sym fail) ∙ e) in (suc rest.0, rest.1, rest.2, rest.3)
] refl

any_of_at : {X : Type 0} (p : X → Bool) (xs : List X) (i : ℕ) (x : X) → slice_get xs i ≡ Some x → p x ≡ true → list_any p xs ≡ true
any_of_at p [] i x at pass = cc
any_of_at {X} p (y ∷ xs) zero x at pass = ap (λ t. t || list_any p xs) (ap p (same y x at) ∙ pass)
  where
    same : (a b : X) → ◌≡◌ {A = Option X} (Some a) (Some b) → a ≡ b
    same a b e = cc
any_of_at p (y ∷ xs) (suc i) x at pass = ap (λ t. p y || t) (any_of_at p xs i x at pass) ∙ or_true (p y)
  where
    or_true : (t : Bool) → (t || true) ≡ true
    or_true true = refl
    or_true false = refl

-- from the key of a vertex's first arc on, and before that of the next vertex
abbrev pub first_arc : ℕ → Key
first_arc v = record { src = v; second = 1 }

-- the keys of the arcs that lead from a vertex
out_key : (v : ℕ) (k : Key) → is_between (first_arc v) (vertex_key (v + 1)) k ≡ true → (k.src ≡ v) × ((k.second == 0) ≡ false)
out_key v k between = (grind (arith, nat_tests), grind (arith, nat_tests))

key_out : (v w : ℕ) → is_between (first_arc v) (vertex_key (v + 1)) (arc_key v w) ≡ true
key_out v w = grind (arith, nat_tests)

-- the value of an arc's key
arc_value : (g : Graph) (k : Key) (w : ℕ) → (k.second == 0) ≡ false → value_at g k ≡ Some w → weight_of g k.src (k.second - 1) ≡ Some w
arc_value g k w arc is = sym (ap (λ t. cond t (cond (has_vertex g k.src) (Some 0) None) (weight_of g k.src (k.second - 1))) arc) ∙ is

touching_arc : (g : Graph) (v a b w : ℕ) → weight_of g a b ≡ Some w → ((a == v) || (b == v)) ≡ true → (t : Bool) → has_edges g v ≡ t → has_edges g v ≡ true
touching_arc g v a b w is touches true e = e
touching_arc g v a b w is touches false e = let gone = no_edges g v e a b touches in let fail : ◌≡◌ {A = Option ℕ} (Some w) None = sym is ∙ gone in cc

-- what a store shows has no row from the last key on
module _ (stamps : TxnName → Option ℕ) (snapshot : Snapshot) (s : Leaves) (sound : AreLeaves s) (g : Graph)
    (shows : ShowsBy stamps snapshot s g) where
  pub ends_with_keys : (q : Key) → is_below q end_key ≡ false → value_at g q ≡ None
  ends_with_keys q beyond =
      sym (shows q)
      ∙ ap (λ (c : VersionedRows). read stamps snapshot.start snapshot.own (forget_row (versions_at c q)))
      (none_beyond (cells_of s) q sound.segments sound.chained sound.high beyond)

first_least : (src second : ℕ) → is_below (record { src = src; second = second }) first_key ≡ false
first_least src second = grind (arith, nat_tests)

-- in such a graph what has a value has a key below the last one
pub seen_within : (g : Graph) → ((q : Key) → is_below q end_key ≡ false → value_at g q ≡ None) → (k : Key) (w : ℕ)
    → value_at g k ≡ Some w → is_between first_key end_key k ≡ true
seen_within g ends k w is = go (is_below k end_key) refl
  where
    go : (t : Bool) → is_below k end_key ≡ t → is_between first_key end_key k ≡ true
    go true e = between_of first_key end_key k (first_least k.src k.second) e
    go false e =
        let fail : ◌≡◌ {A = Option ℕ} (Some w) None = sym is ∙ ends k e in
        cc

module _ (g : Graph) (v : ℕ) where
  abbrev out_of : Bool
  out_of = list_any (has_second None) (rows g (first_arc v) (vertex_key (v + 1)))

  abbrev into : Bool
  into = list_any (has_second (Some (v + 1))) (rows g first_key end_key)

  -- an arc out of a vertex is an edge of it
  pub out_edge : out_of ≡ true → has_edges g v ≡ true
  out_edge any =
      let at = any_at (has_second None) (rows g (first_arc v) (vertex_key (v + 1))) any in
      let row = row_is_between g (first_arc v) (vertex_key (v + 1)) at.0 at.1 at.2 in
      let k = (at.1).key in
      let key = out_key v k row.0 in
      touching_arc g v k.src (k.second - 1) (at.1).weight (arc_value g k (at.1).weight key.1 row.1)
      (ap (λ a. (a == v) || (k.second - 1 == v)) key.0 ∙ ap (λ t. t || (k.second - 1 == v)) (self_eq v))
      (has_edges g v) refl

  -- so is one that leads to it
  pub in_edge : into ≡ true → has_edges g v ≡ true
  in_edge any =
      let at = any_at (has_second (Some (v + 1))) (rows g first_key end_key) any in
      let row = row_is_between g first_key end_key at.0 at.1 at.2 in
      let k = (at.1).key in
      let second : k.second ≡ v + 1 = eq_of k.second (v + 1) at.3 in
      let target : k.second - 1 ≡ v = omega (arith, second) in
      let arc : (k.second == 0) ≡ false = ap (λ n. n == 0) second ∙ not_zero v in
      touching_arc g v k.src (k.second - 1) (at.1).weight (arc_value g k (at.1).weight arc row.1)
      (ap (λ b. (k.src == v) || (b == v)) target ∙ ap (λ t. (k.src == v) || t) (self_eq v) ∙ or_true (k.src == v))
      (has_edges g v) refl
    where
      or_true : (t : Bool) → (t || true) ≡ true
      or_true true = refl
      or_true false = refl

  no_out : out_of ≡ false → (b w : ℕ) → weight_of g v b ≡ Some w → ⊥
  no_out gone b w is =
      let at = row_at_between g (first_arc v) (vertex_key (v + 1)) (arc_key v b) w (key_out v b)
      (weight_is_value g v b ∙ is) in
      never out_of (any_of_at (has_second None) (rows g (first_arc v) (vertex_key (v + 1))) at.0
      (record { key = arc_key v b; weight = w }) at.1 refl) gone

  no_in : ((q : Key) → is_below q end_key ≡ false → value_at g q ≡ None) → into ≡ false → (a w : ℕ)
      → weight_of g a v ≡ Some w → ⊥
  no_in ends gone a w is =
      let value = weight_is_value g a v ∙ is in
      let at = row_at_between g first_key end_key (arc_key a v) w (seen_within g ends (arc_key a v) w value) value in
      never into (any_of_at (has_second (Some (v + 1))) (rows g first_key end_key) at.0
      (record { key = arc_key a v; weight = w }) at.1 (self_eq (v + 1))) gone

  -- where there are neither, it has no edges
  pub none_directed : ((q : Key) → is_below q end_key ≡ false → value_at g q ≡ None) → out_of ≡ false → into ≡ false
      → has_edges g v ≡ false
  none_directed ends out_gone in_gone =
      has_no_edges g v (λ a b touches. nothing a b (either_of (a == v) (b == v) touches) (weight_of g a b) refl)
    where
      nothing : (a b : ℕ) → ((a == v) ≡ true) ⊎ ((b == v) ≡ true) → (x : Option ℕ) → weight_of g a b ≡ x
          → weight_of g a b ≡ None
      nothing a b side None e = e
      nothing a b (inl out) (Some w) e =
          absurd (no_out out_gone b w (ap (λ n. weight_of g n b) (sym (eq_of a v out)) ∙ e))
      nothing a b (inr inside) (Some w) e =
          absurd (no_in ends in_gone a w (ap (λ n. weight_of g a n) (sym (eq_of b v inside)) ∙ e))

  -- in a graph that goes both ways none out is none at all
  pub none_undirected : IsSymmetric g → out_of ≡ false → has_edges g v ≡ false
  none_undirected symmetric out_gone =
      has_no_edges g v (λ a b touches. nothing a b (either_of (a == v) (b == v) touches) (weight_of g a b) refl)
    where
      nothing : (a b : ℕ) → ((a == v) ≡ true) ⊎ ((b == v) ≡ true) → (x : Option ℕ) → weight_of g a b ≡ x
          → weight_of g a b ≡ None
      nothing a b side None e = e
      nothing a b (inl out) (Some w) e =
          absurd (no_out out_gone b w (ap (λ n. weight_of g n b) (sym (eq_of a v out)) ∙ e))
      nothing a b (inr inside) (Some w) e =
          absurd (no_out out_gone a w (symmetric v a ∙ ap (λ n. weight_of g a n) (sym (eq_of b v inside)) ∙ e))

-- tests that agree
pub both_ways : (s t : Bool) → (s ≡ true → t ≡ true) → (s ≡ false → t ≡ false) → s ≡ t
both_ways true t pass fail = sym (pass refl)
both_ways false t pass fail = sym (fail refl)

-- a run isn't empty
pub some_row : (rs : List Row) → not (length rs == 0) ≡ list_any (has_second None) rs
some_row [] = refl
some_row (r ∷ rs) = ap not (longer (length rs))
  where
    longer : (n : ℕ) → (suc n == 0) ≡ false
    longer n = grind (arith, nat_tests)
