-- Rows of a commit that are stamped, one after the other.
use Rattle.std.proofs.Common.{◌≡◌, ℕ, ◌+◌, ◌<◌, ◌≤◌, List, [], ◌∷◌, length, map, take, refl, sym, ◌∙◌, ap, subst, cond, arith, inl, inr, Some, get_or}
use Rattle.std.specs.Prelude.{Bool, true, false, ◌||◌, ◌&&◌, not, is_some, slice_get, slice_set}
use Rattle.std.specs.List.{AllByRecursion}
use Rattle.std.proofs.lemmas.List.Folds.{list_any_more}
use Rattle.std.proofs.lemmas.Option.{slice_get-get_or}
use Rattle.graph_model.specs.declared.row.Key.{Key}
use Rattle.graph_model.specs.declared.journal.TxnName.{TxnName}
use Rattle.graph_model.specs.Conflict.{same_name}
use Rattle.graph_model.specs.Effects.{same_key}
use Rattle.graph_model.proofs.OrderLemmas.{key_tie}
use Rattle.graph_model.proofs.TestLemmas.{never}
use Rattle.store_model.specs.Stamped.{Stamped, StampedVersions, lacks_stamp, stamp, stamp_one}
use Rattle.row_writes.specs.VersionSegment.Rows.{VersionedRows, ChangesKey, IsSegment, has_row, is_empty, is_nothing, versions_at}
use Rattle.row_writes.proofs.VersionSegment.LawLemmas.{key_changed}
use Rattle.row_writes.proofs.KeyLemmas.{key_eq}
use Rattle.store_rule.specs.StoreRelation.Keys.{has_key}
use Rattle.pass_cells.specs.declared.taken.TakenCell.{TakenCell}
use Rattle.pass_cells.specs.Changes.{StampsRows}
use Rattle.pass_cells.specs.Taken.{IsPlace, KeepCells, cell_at, has_cell, held_rows, rows_come}
use Rattle.pass_cells.proofs.CellLemmas.{at_place, either_cell, kept_others, more_come, replaced, set_at}
use Rattle.pass_cells.proofs.RowLemmas.{row_by_versions, row_count}
use Rattle.pass_cells.proofs.WordLemmas.{stamped_nothing, stamped_words}
use Rattle.pass_cells.proofs.SmallLemmas.{all_get}

-- ---- one row

-- a second stamp changes nothing
stamped_twice : (by : TxnName) (n : ℕ) (vs : StampedVersions) → stamp by n (stamp by n vs) ≡ stamp by n vs
stamped_twice by n vs = λ i. record { pairs = twice vs.pairs i; oldest = vs.oldest; touches = twice vs.touches i }
  where
    and_false : (b : Bool) → (b && false) ≡ false
    and_false true = refl
    and_false false = refl

    one : (p : Stamped) → stamp_one by n (stamp_one by n p) ≡ stamp_one by n p
    one p = go (same_name p.by by && lacks_stamp p) refl
      where
        with_it : Stamped
        with_it = record { by = p.by; stamp = Some n; value = p.value }

        go : (t : Bool) → (same_name p.by by && lacks_stamp p) ≡ t
            → stamp_one by n (stamp_one by n p) ≡ stamp_one by n p
        go true e = ap (λ t. stamp_one by n (cond t with_it p)) e
            ∙ ap (λ t. cond t with_it with_it) (and_false (same_name p.by by))
            ∙ sym (ap (λ t. cond t with_it p) e)
        go false e = ap (λ t. stamp_one by n (cond t with_it p)) e

    twice : (ps : List Stamped) → map (stamp_one by n) (map (stamp_one by n) ps) ≡ map (stamp_one by n) ps
    twice [] = refl
    twice (p ∷ ps) = λ i. one p i ∷ twice ps i

-- a row that is stamped is none more
pub stamp_count : (s t : VersionedRows) (key : Key) (by : TxnName) (n : ℕ) → IsSegment s
    → ChangesKey s t key (stamp by n (versions_at s key)) → length t.rows ≤ length s.rows
stamp_count s t key by n sound step =
    let most : length t.rows ≤ length s.rows + cond
    (not (has_row s key) && not (is_nothing (stamp by n (versions_at s key)))) 1 0 =
    rw step.rows (row_count s key (stamp by n (versions_at s key)) sound) in
    let none = no_more (has_row s key) (is_nothing (versions_at s key)) (row_by_versions s key sound) in
    let same : ◌≡◌ {A = ℕ} (cond (not (has_row s key) && not (is_nothing (stamp by n (versions_at s key)))) 1 0)
    (cond (not (has_row s key) && not (is_nothing (versions_at s key))) 1 0)
    = ap (λ b. cond {A = ℕ} (not (has_row s key) && not b) 1 0) (stamped_nothing by n (versions_at s key)) in
    omega (arith, most, none, same)
  where
    no_more : (h e : Bool) → h ≡ not e → ◌≡◌ {A = ℕ} (cond (not h && not e) 1 0) 0
    no_more true true is = cc
    no_more true false is = refl
    no_more false true is = refl
    no_more false false is = cc

-- ---- in the cells in hand

module _ (ts : List TakenCell) (t u : TakenCell) (key : Key) (place : ℕ) (is : IsPlace ts key place)
    (there : slice_get ts place ≡ Some t)
    (has : has_cell ts key ≡ true) (kept : u.rows ≡ t.rows) (by : TxnName) (n : ℕ)
    (step : ChangesKey t.held.value u.held.value key (stamp by n (versions_at t.held.value key))) where
  own : t.held.value ≡ cell_at ts key
  own = (at_place ts key place t is there).0

  each : (q : Key) → versions_at u.held.value q ≡ cond (same_key q key) (stamp by n (versions_at t.held.value q))
      (versions_at t.held.value q)
  each q = key_changed t.held.value u.held.value key (stamp by n (versions_at t.held.value key)) step q
      ∙ (λ i. cond (key_tie q key i) (stamp by n (versions_at t.held.value key)) (versions_at t.held.value q))
      ∙ here (same_key q key) refl
    where
      here : (b : Bool) → same_key q key ≡ b
          → cond b (stamp by n (versions_at t.held.value key)) (versions_at t.held.value q) ≡ cond b
          (stamp by n (versions_at t.held.value q)) (versions_at t.held.value q)
      here true e = ap (λ k. stamp by n (versions_at t.held.value k)) (sym (key_eq q key e))
      here false e = refl

  pub stamps_one : StampsRows by n (key ∷ []) ts (slice_set ts place u)
  stamps_one q = ap (λ l. versions_at (cell_at l q) q) (set_at ts key place u is)
      ∙ (elim (either_cell key u ts has (
        step.low ∙ ap (λ (c : VersionedRows). c.low) own,
        step.high
            ∙ ap (λ (c : VersionedRows). c.high) own,
      ) q)
      as (λ _. versions_at (cell_at (replaced key u ts) q) q ≡ cond (same_key q key || false)
      (stamp by n (versions_at (cell_at ts q) q)) (versions_at (cell_at ts q) q)) [
        | inl h ↦ ap (λ s. versions_at s q) h.1 ∙ each q
            ∙ (λ i. cond (sym (or_false (same_key q key)) i) (stamp by n (versions_at ((own ∙ sym h.0) i) q))
            (versions_at ((own ∙ sym h.0) i) q))
        | inr h ↦ ap (λ s. versions_at s q) h.0
            ∙ sym (ap (λ b. cond (b || false) (stamp by n (versions_at (cell_at ts q) q))
            (versions_at (cell_at ts q) q)) h.1)
      ])
    where
      or_false : (b : Bool) → (b || false) ≡ b
      or_false true = refl
      or_false false = refl

  pub stamps_count : IsSegment t.held.value → rows_come (slice_set ts place u) ≤ rows_come ts
  stamps_count sound =
      let few = stamp_count t.held.value u.held.value key by n sound step in
      let more = subst (λ l. rows_come l ≤ rows_come ts + 0) (sym (set_at ts key place u is))
      (more_come key u ts t place 0 is there kept (omega (arith, few))) in
      omega (arith, more)

  pub stamps_keep : IsSegment t.held.value → IsSegment u.held.value → u.held.cell ≡ t.held.cell
      → u.held.changed ≡ true → u.words_changed ≡ t.words_changed → KeepCells ts (slice_set ts place u)
  stamps_keep was sound cell set marked =
      subst (KeepCells ts) (sym (set_at ts key place u is)) (kept_others key u ts t place is there (record {
        cell = cell;
        rows = kept;
        low = step.low;
        high = step.high;
        sound = λ s. sound;
        unmarked = λ e. never u.held.changed set e;
        same = λ e. (sym marked ∙ e, stamped_words t.held.value u.held.value key by n was step);
      }))

-- ---- one after the other

-- what one more key makes of rows that are stamped so far
pub stamps_more : (by : TxnName) (n : ℕ) (keys : List Key) (place : ℕ) (d : Key) (ts ms us : List TakenCell)
    → place < length keys
    → StampsRows by n (take place keys) ts ms → StampsRows by n (get_or keys place d ∷ []) ms us
    → StampsRows by n (take (place + 1) keys) ts us
stamps_more by n keys place d ts ms us within one two q =
    two q ∙ ap (λ vs. cond (same_key q (get_or keys place d) || false) (stamp by n vs) vs) (one q)
    ∙ joined (has_key (take place keys) q) (same_key q (get_or keys place d)) ((held_rows ts).versions q)
    ∙ ap (λ b. cond b (stamp by n ((held_rows ts).versions q)) ((held_rows ts).versions q))
    (sym (list_any_more (same_key q) keys place d within))
  where
    joined : (a b : Bool) (x : StampedVersions)
        → cond (b || false) (stamp by n (cond a (stamp by n x) x)) (cond a (stamp by n x) x) ≡ cond (a || b)
        (stamp by n x) x
    joined true true x = stamped_twice by n x
    joined true false x = refl
    joined false true x = refl
    joined false false x = refl

pub key_held : (ts : List TakenCell) (keys : List Key) (place : ℕ) (d : Key)
    → AllByRecursion (λ k. has_cell ts k ≡ true) keys → place < length keys → has_cell ts (get_or keys place d) ≡ true
key_held ts keys place d all within =
    all_get (λ k. has_cell ts k ≡ true) keys place (get_or keys place d) all (slice_get-get_or keys place d within)
