-- What a cell has of a key range, for a snapshot, are the rows of the graph that it sees.
use Rattle.std.proofs.Common.{◌≡◌, ℕ, ◌+◌, ◌<◌, ◌≤◌, List, [], ◌∷◌, length, map, refl, sym, ◌∙◌, ap, cond, arith}
use Rattle.std.specs.Prelude.{Bool, true, false, ◌&&◌, Option, Some, None}
use Rattle.std.specs.Ordering.{is_lt, is_eq, eq_by_cmp}
use Rattle.std.specs.declared.cmp.Ordering.{Ordering}
use Rattle.std.specs.declared.cmp.Ordering.TheVariants.{Less, Equal, Greater}
use Rattle.std.specs.FinMap.Entries.{find, below_all, is_sorted, is_sorted-where_key, find-where_key}
use Rattle.std.proofs.lemmas.Bool.Decides.{nat_tests}
use Rattle.graph_model.specs.declared.row.Key.{Key}
use Rattle.graph_model.specs.declared.row.Row.{Row}
use Rattle.graph_model.specs.declared.journal.TxnName.{TxnName}
use Rattle.graph_model.specs.Graph.{Graph}
use Rattle.graph_model.specs.Rows.{key_cmp, is_below, is_between, end_key, rows, row_of, value_at}
use Rattle.graph_model.proofs.OrderLemmas.{keys_exact}
use Rattle.graph_model.proofs.KeyLemmas.{below_chain, below_self, below_up, between_parts, between_of, upto_chain}
use Rattle.graph_model.proofs.RowLemmas.{rows_of_values}
use Rattle.graph_model.proofs.SortedLemmas.{true_from_T, both_true}
use Rattle.store_model.specs.Stamped.{StampedVersions, read_stamped}
use Rattle.undo_chain.specs.declared.states.Snapshot.{Snapshot}
use Rattle.row_writes.specs.VersionSegment.Rows.{VersionedRows, IsSegment, nothing, or_nothing, versions_at, with_row, rows_read, range_of, rows_at}
use Rattle.row_writes.specs.VersionSegment.Checks.{AreNamedIn, AreNamedRows}
use Rattle.store_model.specs.Stamped.{Stamped}
use Rattle.leaf_store.specs.Leaves.{Leaves, cell_in, cell_at, cells_of, versions_of}
use Rattle.leaf_rows.specs.Readers.{AreUnstamped}
use Rattle.leaf_rows.specs.Runs.{ShowsBy, lesser, run_end, cells_behind, runs_left}
use Rattle.leaf_rows.proofs.CellLemmas.{rises_sorted}
use Rattle.leaf_rows.proofs.KnownLemmas.{read_unstamped}

-- ---- whom one may ask for

named_in : (names : TxnName → Bool) → ((by : TxnName) → names by ≡ true) → (ps : List Stamped) → AreNamedIn names ps
named_in names all [] = tt
named_in names all (p ∷ ps) = (λ _. all p.by, named_in names all ps)

pub all_named : (names : TxnName → Bool) → ((by : TxnName) → names by ≡ true) → (es : List (Key × StampedVersions)) → AreNamedRows names es
all_named names all [] = tt
all_named names all (e ∷ es) = (record { pairs = named_in names all (e.1).pairs; touches = named_in names all (e.1).touches }, all_named names all es)

-- ---- what is seen of rows, by their keys

module _ (f : StampedVersions → Option ℕ) where
  abbrev seen_if : Key → Option ℕ → List (Key × ℕ) → List (Key × ℕ)
  seen_if k None es = es
  seen_if k (Some w) es = (k, w) ∷ es

  abbrev seen : List (Key × StampedVersions) → List (Key × ℕ)
  seen [] = []
  seen (e ∷ es) = seen_if e.0 (f e.1) (seen es)

  read_is_seen : (es : List (Key × StampedVersions)) → rows_read f es ≡ map row_of (seen es)
  read_is_seen [] = refl
  read_is_seen (e ∷ es) = go (f e.1) (read_is_seen es)
    where
      go : (v : Option ℕ) → rows_read f es ≡ map row_of (seen es) → with_row e.0 v (rows_read f es) ≡ map row_of (seen_if e.0 v (seen es))
      go None rest = rest
      go (Some w) rest = ap (λ rs. record { key = e.0; weight = w } ∷ rs) rest

  below_seen : (x : Key) (es : List (Key × StampedVersions)) → below_all key_cmp x es ≡ true → below_all key_cmp x (seen es) ≡ true
  below_seen x [] below = refl
  below_seen x (e ∷ es) below =
      let both = both_true (is_lt (key_cmp x e.0)) (below_all key_cmp x es) below in
      elim (f e.1) as (λ v. below_all key_cmp x (seen_if e.0 v (seen es)) ≡ true) [
        | None ↦ below_seen x es both.1
        | Some w ↦ λ i. both.0 i && below_seen x es both.1 i
      ]

  seen_sorted : (es : List (Key × StampedVersions)) → is_sorted key_cmp es ≡ true → is_sorted key_cmp (seen es) ≡ true
  seen_sorted [] sorted = refl
  seen_sorted (e ∷ es) sorted =
      let both = both_true (below_all key_cmp e.0 es) (is_sorted key_cmp es) sorted in
      elim (f e.1) as (λ v. is_sorted key_cmp (seen_if e.0 v (seen es)) ≡ true) [
        | None ↦ seen_sorted es both.1
        | Some w ↦ λ i. below_seen e.0 es both.0 i && seen_sorted es both.1 i
      ]

  absent : {X : Type 0} (x : Key) (es : List (Key × X)) → below_all key_cmp x es ≡ true → find key_cmp x es ≡ None
  absent x [] below = refl
  absent x (e ∷ es) below =
      let both = both_true (is_lt (key_cmp x e.0)) (below_all key_cmp x es) below in
      ap (λ t. cond t (Some e.1) (find key_cmp x es)) (not_equal (key_cmp x e.0) both.0) ∙ absent x es both.1
    where
      not_equal : (o : Ordering) → is_lt o ≡ true → is_eq o ≡ false
      not_equal Less e = refl
      not_equal Equal e = cc
      not_equal Greater e = cc

  seen_found : f nothing ≡ None → (es : List (Key × StampedVersions)) → is_sorted key_cmp es ≡ true → (q : Key) → find key_cmp q (seen es) ≡ f (or_nothing (find key_cmp q es))
  seen_found none [] sorted q = sym none
  seen_found none (e ∷ es) sorted q =
      let both = both_true (below_all key_cmp e.0 es) (is_sorted key_cmp es) sorted in
      elim (eq_by_cmp key_cmp q e.0) as (λ t. eq_by_cmp key_cmp q e.0 ≡ t → find key_cmp q (seen_if e.0 (f e.1) (seen es)) ≡ f (or_nothing (cond t (Some e.1) (find key_cmp q es)))) [
        | true ↦ λ tie.
            elim (f e.1) as (λ v. find key_cmp q (seen_if e.0 v (seen es)) ≡ v) [
              | None ↦ ap (λ k. find key_cmp k (seen es)) (key_is q e.0 tie) ∙ absent e.0 (seen es) (below_seen e.0 es both.0)
              | Some w ↦ ap (λ t. cond t (Some w) (find key_cmp q (seen es))) tie
            ]
        | false ↦ λ other.
            elim (f e.1) as (λ v. find key_cmp q (seen_if e.0 v (seen es)) ≡ f (or_nothing (find key_cmp q es))) [
              | None ↦ seen_found none es both.1 q
              | Some w ↦ ap (λ t. cond t (Some w) (find key_cmp q (seen es))) other ∙ seen_found none es both.1 q
            ]
      ] refl
    where
      key_is : (a b : Key) → eq_by_cmp key_cmp a b ≡ true → a ≡ b
      key_is a b tie = keys_exact a b (equal (key_cmp a b) tie)
        where
          equal : (o : Ordering) → is_eq o ≡ true → o ≡ Equal
          equal Less e = cc
          equal Equal e = refl
          equal Greater e = cc

  -- a key range of a segment, where each key of it shows the graph's value
  pub range_read : f nothing ≡ None → (c : VersionedRows) → IsSegment c → (g : Graph) (from until : Key)
      → ((q : Key) → is_between from until q ≡ true → f (versions_at c q) ≡ value_at g q) → rows_read f (range_of from until c.rows) ≡ rows g from until
  range_read none c sound g from until shows =
      read_is_seen (range_of from until c.rows)
      ∙ rows_of_values g from until (seen (range_of from until c.rows)) (seen_sorted (range_of from until c.rows) sorted)
      (λ q. seen_found none (range_of from until c.rows) sorted q ∙ ap (λ o. f (or_nothing o)) (find-where_key key_cmp (is_between from until) q (alike q) c.rows) ∙ value q (is_between from until q) refl)
    where
      sorted : is_sorted key_cmp (range_of from until c.rows) ≡ true
      sorted = true_from_T (is_sorted key_cmp (range_of from until c.rows)) (is_sorted-where_key key_cmp (is_between from until) c.rows (rises_sorted c.rows sound.rising))

      alike : (q x : Key) → key_cmp q x ≡ Equal → is_between from until x ≡ is_between from until q
      alike q x e = ap (is_between from until) (sym (keys_exact q x e))

      value : (q : Key) (t : Bool) → is_between from until q ≡ t → f (or_nothing (cond t (find key_cmp q c.rows) None)) ≡ cond t (value_at g q) None
      value q true e = shows q e
      value q false e = none

-- a run has at most as many rows as a segment
pub few_read : (f : StampedVersions → Option ℕ) (c : VersionedRows) (from until : Key) → IsSegment c → length (rows_read f (range_of from until c.rows)) ≤ 32
few_read f c from until sound = let a = few (range_of from until c.rows) in let b = part c.rows in let d = sound.small in omega (arith, a, b, d)
  where
    one : (k : Key) (v : Option ℕ) (rs : List Row) → length (with_row k v rs) ≤ length rs + 1
    one k None rs = omega arith
    one k (Some w) rs = omega arith

    few : (es : List (Key × StampedVersions)) → length (rows_read f es) ≤ length es
    few [] = omega arith
    few (e ∷ es) = let h = few es in let o = one e.0 (f e.1) (rows_read f es) in omega (arith, h, o)

    part : (es : List (Key × StampedVersions)) → length (range_of from until es) ≤ length es
    part [] = omega arith
    part (e ∷ es) = go (is_between from until e.0) (part es)
      where
        go : (t : Bool) → length (range_of from until es) ≤ length es → length (cond t (e ∷ range_of from until es) (range_of from until es)) ≤ length (e ∷ es)
        go true h = omega (arith, h)
        go false h = omega (arith, h)

-- ---- ranges within a cell

-- no key is between where the first isn't below the second
pub none_between : (g : Graph) (from until : Key) → is_below from until ≡ false → rows g from until ≡ []
none_between g from until apart = sym (rows_of_values g from until [] refl (λ q. sym (ap (λ t. cond t (value_at g q) None) (nothing_between q))))
  where
    nothing_between : (q : Key) → is_between from until q ≡ false
    nothing_between q = grind (arith, nat_tests)

-- what the run of a cell has
pub run_is : (stamps : TxnName → Option ℕ) (snapshot : Snapshot) (s : Leaves) (g : Graph) (c : VersionedRows) (from until : Key) → IsSegment c → AreUnstamped s
    → is_between c.low c.high from ≡ true → ((q : Key) → is_between c.low c.high q ≡ true → cell_at s q ≡ c)
    → ShowsBy stamps snapshot s g → rows_at stamps snapshot from (lesser c.high until) c ≡ rows g from (lesser c.high until)
run_is stamps snapshot s g c from until sound none holds same shows =
    range_read (read_stamped stamps snapshot.start snapshot.own) refl c sound g from (lesser c.high until) value
  where
    in_cell : (q : Key) (t : Bool) → is_below c.high until ≡ t → is_between from (cond t c.high until) q ≡ true → is_between c.low c.high q ≡ true
    in_cell q true e between =
        let parts = between_parts from c.high q between in
        between_of c.low c.high q (upto_chain c.low from q (between_parts c.low c.high from holds).0 parts.0) parts.1
    in_cell q false e between =
        let parts = between_parts from until q between in
        between_of c.low c.high q (upto_chain c.low from q (between_parts c.low c.high from holds).0 parts.0) (below_up q until c.high parts.1 e)

    value : (q : Key) → is_between from (lesser c.high until) q ≡ true → read_stamped stamps snapshot.start snapshot.own (versions_at c q) ≡ value_at g q
    value q between =
        ap (λ (d : VersionedRows). read_stamped stamps snapshot.start snapshot.own (versions_at d q)) (sym (same q (in_cell q (is_below c.high until) refl between)))
        ∙ read_unstamped stamps snapshot.start snapshot.own (versions_of s q) (record { pairs = none.pairs q; touches = none.touches q })
        ∙ shows q

-- ---- how many runs are left

-- no cell ends behind the later key that doesn't end behind the earlier one
no_more : (a b : Key) → is_below a b ≡ true → (cs : List VersionedRows) → cells_behind b cs ≤ cells_behind a cs
no_more a b ab [] = omega arith
no_more a b ab (c ∷ cs) = go (is_below b c.high) (is_below a c.high) refl refl (no_more a b ab cs)
  where
    go : (t s : Bool) → is_below b c.high ≡ t → is_below a c.high ≡ s → cells_behind b cs ≤ cells_behind a cs
        → cond t 1 0 + cells_behind b cs ≤ cond s 1 0 + cells_behind a cs
    go true true e f h = omega (arith, h)
    go true false e f h = let clash : true ≡ false = sym (below_chain a b c.high ab e) ∙ f in cc
    go false true e f h = omega (arith, h)
    go false false e f h = omega (arith, h)

-- a key's cell ends behind it, and not behind its own end
fewer_behind : (key : Key) (cs : List VersionedRows) (h : Key) → h ≡ (cell_in cs key).high → is_below key h ≡ true → is_between (cell_in cs key).low (cell_in cs key).high key ≡ true
    → cells_behind h cs < cells_behind key cs
fewer_behind key [] h is behind holds = absurd (clash holds)
  where
    clash : is_between end_key end_key key ≡ true → ⊥
    clash e = grind (arith, nat_tests)
fewer_behind key (c ∷ cs) h is behind holds = go (is_between c.low c.high key) refl is holds (λ i b. fewer_behind key cs h i behind b)
  where
    go : (t : Bool) → is_between c.low c.high key ≡ t → h ≡ (cond t c (cell_in cs key)).high → is_between (cond t c (cell_in cs key)).low (cond t c (cell_in cs key)).high key ≡ true
        → (h ≡ (cell_in cs key).high → is_between (cell_in cs key).low (cell_in cs key).high key ≡ true → cells_behind h cs < cells_behind key cs)
        → cond (is_below h c.high) 1 0 + cells_behind h cs < cond (is_below key c.high) 1 0 + cells_behind key cs
    go true e is holds rest =
        let here : is_below h c.high ≡ false = ap (λ k. is_below k c.high) is ∙ below_self c.high in
        let there : is_below key c.high ≡ true = (between_parts c.low c.high key e).1 in
        let others = no_more key h behind cs in
        rw (here, there) (omega (arith, others))
    go false e is holds rest = step (is_below h c.high) (is_below key c.high) refl refl (rest is holds)
      where
        step : (t s : Bool) → is_below h c.high ≡ t → is_below key c.high ≡ s → cells_behind h cs < cells_behind key cs
            → cond t 1 0 + cells_behind h cs < cond s 1 0 + cells_behind key cs
        step true true e f h = omega (arith, h)
        step true false e f g = let clash : true ≡ false = sym (below_chain key h c.high behind e) ∙ f in cc
        step false true e f h = omega (arith, h)
        step false false e f h = omega (arith, h)

pub runs_fall : (s : Leaves) (key until : Key) → is_below key until ≡ true → is_between (cell_at s key).low (cell_at s key).high key ≡ true
    → runs_left s (run_end s key until) until < runs_left s key until
runs_fall s key until below holds = rw below (go (is_below (cell_at s key).high until) refl)
  where
    go : (t : Bool) → is_below (cell_at s key).high until ≡ t → runs_left s (cond t (cell_at s key).high until) until < cells_behind key (cells_of s) + 1
    go true e =
        let fewer = fewer_behind key (cells_of s) (cell_at s key).high refl (between_parts (cell_at s key).low (cell_at s key).high key holds).1 holds in
        rw e (omega (arith, fewer))
    go false e = rw (below_self until) (omega arith)
