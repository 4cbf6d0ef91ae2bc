-- What a cell in hand has of a key range, for a snapshot, are the rows of the graph that it sees.
use Rattle.std.proofs.Common.{◌≡◌, ℕ, ◌+◌, ◌≤◌, List, [], ◌∷◌, length, map, refl, sym, ◌∙◌, ap, cond, arith}
use Rattle.std.specs.Prelude.{Bool, true, false, ◌&&◌, Option, Some, None}
use Rattle.std.specs.Ordering.{is_lt, is_eq, eq_by_cmp}
use Rattle.std.specs.declared.cmp.Ordering.{Ordering}
use Rattle.std.specs.declared.cmp.Ordering.TheVariants.{Less, Equal, Greater}
use Rattle.std.specs.FinMap.Entries.{find, below_all, is_sorted, is_sorted-where_key, find-where_key}
use Rattle.graph_model.specs.declared.row.Key.{Key}
use Rattle.graph_model.specs.declared.row.Row.{Row}
use Rattle.graph_model.specs.declared.journal.TxnName.{TxnName}
use Rattle.graph_model.specs.Graph.{Graph}
use Rattle.graph_model.specs.Rows.{first_key, key_cmp, is_below, is_between, rows, row_of, value_at}
use Rattle.graph_model.proofs.OrderLemmas.{keys_exact}
use Rattle.graph_model.proofs.KeyLemmas.{below_up, between_parts, between_of, upto_chain}
use Rattle.graph_model.proofs.RowLemmas.{rows_of_values}
use Rattle.graph_model.proofs.SortedLemmas.{true_from_T, both_true}
use Rattle.store_model.specs.Stamped.{StampedVersions, read_stamped}
use Rattle.undo_chain.specs.declared.states.Snapshot.{Snapshot}
use Rattle.row_writes.specs.VersionSegment.Rows.{VersionedRows, IsSegment, nothing, or_nothing, versions_at, with_row, rows_read, range_of, rows_at}
use Rattle.row_writes.specs.Checks.{ShowsHeld}
use Rattle.store_rule.specs.CellsModel.Indexed.{covers}
use Rattle.pass_cells.specs.declared.taken.TakenCell.{TakenCell}
use Rattle.pass_cells.specs.Reading.{lesser}
use Rattle.pass_cells.specs.Taken.{AreRising, held_rows}
use Rattle.pass_cells.proofs.RowLemmas.{rises_sorted}
use Rattle.pass_cells.proofs.CellLemmas.{IsAmong}
use Rattle.pass_cells.proofs.StepLemmas.{unique_cell}

-- ---- what is seen of rows, by their keys

module _ (f : StampedVersions → Option ℕ) where
  abbrev seen_if : Key → Option ℕ → List (Key × ℕ) → List (Key × ℕ)
  seen_if k None es = es
  seen_if k (Some w) es = (k, w) ∷ es

  abbrev seen : List (Key × StampedVersions) → List (Key × ℕ)
  seen [] = []
  seen (e ∷ es) = seen_if e.0 (f e.1) (seen es)

  read_is_seen : (es : List (Key × StampedVersions)) → rows_read f es ≡ map row_of (seen es)
  read_is_seen [] = refl
  read_is_seen (e ∷ es) = go (f e.1) (read_is_seen es)
    where
      go : (v : Option ℕ) → rows_read f es ≡ map row_of (seen es)
          → with_row e.0 v (rows_read f es) ≡ map row_of (seen_if e.0 v (seen es))
      go None rest = rest
      go (Some w) rest = ap (λ rs. record { key = e.0; weight = w } ∷ rs) rest

  below_seen : (x : Key) (es : List (Key × StampedVersions)) → below_all key_cmp x es ≡ true
      → below_all key_cmp x (seen es) ≡ true
  below_seen x [] below = refl
  below_seen x (e ∷ es) below =
      let both = both_true (is_lt (key_cmp x e.0)) (below_all key_cmp x es) below in
      elim (f e.1) as (λ v. below_all key_cmp x (seen_if e.0 v (seen es)) ≡ true) [
        | None ↦ below_seen x es both.1
        | Some w ↦ λ i. both.0 i && below_seen x es both.1 i
      ]

  seen_sorted : (es : List (Key × StampedVersions)) → is_sorted key_cmp es ≡ true → is_sorted key_cmp (seen es) ≡ true
  seen_sorted [] sorted = refl
  seen_sorted (e ∷ es) sorted =
      let both = both_true (below_all key_cmp e.0 es) (is_sorted key_cmp es) sorted in
      elim (f e.1) as (λ v. is_sorted key_cmp (seen_if e.0 v (seen es)) ≡ true) [
        | None ↦ seen_sorted es both.1
        | Some w ↦ λ i. below_seen e.0 es both.0 i && seen_sorted es both.1 i
      ]

  absent : {X : Type 0} (x : Key) (es : List (Key × X)) → below_all key_cmp x es ≡ true → find key_cmp x es ≡ None
  absent x [] below = refl
  absent x (e ∷ es) below =
      let both = both_true (is_lt (key_cmp x e.0)) (below_all key_cmp x es) below in
      ap (λ t. cond t (Some e.1) (find key_cmp x es)) (not_equal (key_cmp x e.0) both.0) ∙ absent x es both.1
    where
      not_equal : (o : Ordering) → is_lt o ≡ true → is_eq o ≡ false
      not_equal Less e = refl
      not_equal Equal e = cc
      not_equal Greater e = cc

  seen_found : f nothing ≡ None → (es : List (Key × StampedVersions)) → is_sorted key_cmp es ≡ true → (q : Key)
      → find key_cmp q (seen es) ≡ f (or_nothing (find key_cmp q es))
  seen_found none [] sorted q = sym none
  seen_found none (e ∷ es) sorted q =
      let both = both_true (below_all key_cmp e.0 es) (is_sorted key_cmp es) sorted in
      elim (eq_by_cmp key_cmp q e.0) as (λ t. eq_by_cmp key_cmp q e.0 ≡ t
      → find key_cmp q (seen_if e.0 (f e.1) (seen es)) ≡ f (or_nothing (cond t (Some e.1) (find key_cmp q es)))) [
        | true ↦ λ tie.
            elim (f e.1) as (λ v. find key_cmp q (seen_if e.0 v (seen es)) ≡ v) [
              | None ↦ ap (λ k. find key_cmp k (seen es)) (key_is q e.0 tie)
                  ∙ absent e.0 (seen es) (below_seen e.0 es both.0)
              | Some w ↦ ap (λ t. cond t (Some w) (find key_cmp q (seen es))) tie
            ]
        | false ↦ λ other.
            elim (f e.1) as (λ v. find key_cmp q (seen_if e.0 v (seen es)) ≡ f (or_nothing (find key_cmp q es))) [
              | None ↦ seen_found none es both.1 q
              | Some w ↦ ap (λ t. cond t (Some w) (find key_cmp q (seen es))) other ∙ seen_found none es both.1 q
            ]
      ] refl
    where
      key_is : (a b : Key) → eq_by_cmp key_cmp a b ≡ true → a ≡ b
      key_is a b tie = keys_exact a b (equal (key_cmp a b) tie)
        where
          equal : (o : Ordering) → is_eq o ≡ true → o ≡ Equal
          equal Less e = cc
          equal Equal e = refl
          equal Greater e = cc

  -- a key range of a segment, where each key of it shows the graph's value
  pub range_read : f nothing ≡ None → (c : VersionedRows) → IsSegment c → (g : Graph) (from until : Key)
      → ((q : Key) → is_between from until q ≡ true → f (versions_at c q) ≡ value_at g q)
      → rows_read f (range_of from until c.rows) ≡ rows g from until
  range_read none c sound g from until shows =
      read_is_seen (range_of from until c.rows)
      ∙ rows_of_values g from until (seen (range_of from until c.rows))
      (seen_sorted (range_of from until c.rows) sorted)
      (λ q. seen_found none (range_of from until c.rows) sorted q
      ∙ ap (λ o. f (or_nothing o)) (find-where_key key_cmp (is_between from until) q (alike q) c.rows)
      ∙ value q (is_between from until q) refl)
    where
      sorted : is_sorted key_cmp (range_of from until c.rows) ≡ true
      sorted = true_from_T (is_sorted key_cmp (range_of from until c.rows))
          (is_sorted-where_key key_cmp (is_between from until) c.rows (rises_sorted c.rows sound.rising))

      alike : (q x : Key) → key_cmp q x ≡ Equal → is_between from until x ≡ is_between from until q
      alike q x e = ap (is_between from until) (sym (keys_exact q x e))

      value : (q : Key) (t : Bool) → is_between from until q ≡ t
          → f (or_nothing (cond t (find key_cmp q c.rows) None)) ≡ cond t (value_at g q) None
      value q true e = shows q e
      value q false e = none

-- a run has at most as many rows as a segment
pub few_read : (f : StampedVersions → Option ℕ) (c : VersionedRows) (from until : Key) → IsSegment c
    → length (rows_read f (range_of from until c.rows)) ≤ 32
few_read f c from until sound = let a = few (range_of from until c.rows) in let b = part c.rows in let d =
    sound.small in omega (arith, a, b, d)
  where
    one : (k : Key) (v : Option ℕ) (rs : List Row) → length (with_row k v rs) ≤ length rs + 1
    one k None rs = omega arith
    one k (Some w) rs = omega arith

    few : (es : List (Key × StampedVersions)) → length (rows_read f es) ≤ length es
    few [] = omega arith
    few (e ∷ es) = let h = few es in let o = one e.0 (f e.1) (rows_read f es) in omega (arith, h, o)

    part : (es : List (Key × StampedVersions)) → length (range_of from until es) ≤ length es
    part [] = omega arith
    part (e ∷ es) = go (is_between from until e.0) (part es)
      where
        go : (t : Bool) → length (range_of from until es) ≤ length es
            → length (cond t (e ∷ range_of from until es) (range_of from until es)) ≤ length (e ∷ es)
        go true h = omega (arith, h)
        go false h = omega (arith, h)

-- what the run of a cell in hand has
pub run_is : (stamps : TxnName → Option ℕ) (snapshot : Snapshot) (ts : List TakenCell) (g : Graph) (t : TakenCell)
    (from until : Key) → AreRising ts → IsAmong t ts
    → IsSegment t.held.value → covers t.held.value from ≡ true → ShowsHeld stamps snapshot (held_rows ts) g
    → rows_at stamps snapshot from (lesser t.held.value.high until) t.held.value ≡ rows g from
    (lesser t.held.value.high until)
run_is stamps snapshot ts g t from until rising among sound holds shows =
    range_read (read_stamped stamps snapshot.start snapshot.own) refl t.held.value sound g from
    (lesser t.held.value.high until) value
  where
    in_cell : (q : Key) (b : Bool) → is_below t.held.value.high until ≡ b
        → is_between from (cond b t.held.value.high until) q ≡ true → covers t.held.value q ≡ true
    in_cell q true e between =
        let parts = between_parts from t.held.value.high q between in
        between_of t.held.value.low t.held.value.high q
        (upto_chain t.held.value.low from q
        (between_parts t.held.value.low t.held.value.high from holds).0 parts.0) parts.1
    in_cell q false e between =
        let parts = between_parts from until q between in
        between_of t.held.value.low t.held.value.high q
        (upto_chain t.held.value.low from q
        (between_parts t.held.value.low t.held.value.high from holds).0 parts.0)
        (below_up q until t.held.value.high parts.1 e)

    value : (q : Key) → is_between from (lesser t.held.value.high until) q ≡ true
        → read_stamped stamps snapshot.start snapshot.own (versions_at t.held.value q) ≡ value_at g q
    value q between =
        let cell = unique_cell first_key ts rising t among q
        (in_cell q (is_below t.held.value.high until) refl between) in
        ap (λ (s : VersionedRows). read_stamped stamps snapshot.start snapshot.own (versions_at s q)) (sym cell.0)
        ∙ shows q cell.1
