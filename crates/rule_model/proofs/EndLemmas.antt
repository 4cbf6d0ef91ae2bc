-- A new table keeps the rule, and one view that has all of a store shows a closed one.
use Rattle.std.proofs.Common.{◌≡◌, inl, ℕ, zero, suc, ◌+◌, ◌*◌, ◌-◌, ◌<◌, ◌≤◌, List, [], ◌∷◌, ◌++◌, length, refl, sym, ◌∙◌, ap, subst, cond, arith, append-nil, length-append}
use Rattle.std.specs.Prelude.{Bool, true, false, ◌==◌, ◌&&◌, nat_lt, Some, None, slice_get, slice_index}
use Rattle.std.specs.List.{range_with_len}
use Rattle.std.specs.FinMap.Entries.{find}
use Rattle.std.specs.declared.alloc.Global.{Global}
use Rattle.std.proofs.lemmas.Bool.{true≢false}
use Rattle.std.proofs.lemmas.Bool.Decides.{nat_tests}
use Rattle.std.proofs.lemmas.List.{get_or_append_left, get_or-append_right}
use Rattle.std.proofs.lemmas.List.FromFn.{length-range_with_len}
use mathlib.Core.Option.{some, some-injective, some-ne-none}
use lib.ListN.{get_elem?}
use Rattle.graph_model.specs.declared.row.Key.{Key}
use Rattle.graph_model.specs.Rows.{key_cmp, first_key, end_key, is_below}
use Rattle.txn_manager.specs.declared.config.Config.{Config}
use Rattle.store_model.specs.Stamped.{StampedVersions}
use Rattle.store_relation.specs.VersionSegment.Rows.{IsSegment, nothing, or_nothing, versions_at}
use Rattle.cells_model.specs.LeafArray.Segments.{rows_of}
use Rattle.leaf_index.specs.Calls.{new_index}
use Rattle.cells_model.specs.LeafStore.Leaves.{Part, versions_of, weight}
use Rattle.cells_model.specs.LeafStore.Table.{segments_at}
use Rattle.cells_model.proofs.LeafStore.StoreLemmas.{versions_in_rows, weight_one}
use Rattle.cells_model.proofs.LeafStore.TableLemmas.{kept_leaves}
use Rattle.seat_views.specs.Keeping.{kept_at, Keeps}
use Rattle.seat_views.proofs.NumberLemmas.{eq_of, some_is}
use Rattle.store_relation.specs.Ends.{IsClosed}
use Rattle.store_relation.specs.Passes.{PassState, fresh_pass}
use Rattle.store_relation.specs.Shared.{IsShared, JournalState, no_journal}
use Rattle.store_relation.proofs.EndLemmas.{closes, new_shared}
use Rattle.cells_model.specs.Cells.{CellState}
use Rattle.cells_model.specs.Indexed.{covers, leaf_cells, new_cell, store_of, table_of, IsIndexed}
use Rattle.cells_model.specs.InPlace.{segment_of}
use Rattle.store_relation.specs.VersionSegment.Resting.{word_rows}
use Rattle.cells_model.specs.Words.{Spells, block_words, spelled}
use Rattle.cells_model.proofs.IndexedLemmas.{cells_show, new_indexed}
use Rattle.cells_model.proofs.RunLemmas.{segments_table}
use Rattle.rule_model.specs.EndSteps.{AreNewWords, LinesAreNew, NewTable, TableBegins, TableCloses, sight_of, new_block, new_blocks, new_known, new_words, numbered, zeros}
use Rattle.rule_model.specs.LastSteps.{HaveRows, StoreCloses}
use Rattle.rule_model.specs.Places.{Layout}
use Rattle.rule_model.specs.Sight.{IndexState, Sight, HasPass, cells_of}
use Rattle.rule_model.specs.Rule.{IsStored, rows_now, words_of}
use Rattle.rule_model.proofs.PlaceLemmas.{lines_keep_apart}

-- ---- a block without rows

new_sound : (k : ℕ) → IsSegment (new_cell k)
new_sound k = record { fences = ends (k == 0); rising = tt; within = tt; something = tt; small = omega arith }
  where
    ends : (b : Bool) → is_below end_key (cond b first_key end_key) ≡ false
    ends true = refl
    ends false = refl

new_spells : (k : ℕ) → Spells (new_block k) (new_cell k)
new_spells k = record { wide = refl; words = each; sound = new_sound k; small = tt }
  where
    each : (i n : ℕ) → slice_get (spelled (new_cell k).low (new_cell k).high (word_rows (new_cell k))) i
        ≡ Some n → slice_index (new_block k) (i + 1) ≡ n
    each zero n e = some_is 0 n e
    each (suc zero) n e = some_is (new_cell k).low.src n e
    each (suc (suc zero)) n e = some_is (new_cell k).low.second n e
    each (suc (suc (suc zero))) n e = some_is (new_cell k).high.src n e
    each (suc (suc (suc (suc zero)))) n e = some_is (new_cell k).high.second n e
    each (suc (suc (suc (suc (suc i))))) n e = cc

-- ---- words in lines

zeros_length : (n : ℕ) → length (zeros n) ≡ n
zeros_length zero = refl
zeros_length (suc n) = ap suc (zeros_length n)

zeros_zero : (n i : ℕ) → slice_index (zeros n) i ≡ 0
zeros_zero zero i = refl
zeros_zero (suc n) zero = refl
zeros_zero (suc n) (suc i) = zeros_zero n i

blocks_length : (k n : ℕ) → length (new_blocks k n) ≡ block_words * n
blocks_length k zero = refl
blocks_length k (suc n) =
    let both = length-append (new_block k) (new_blocks (k + 1) n) in
    let rest = blocks_length (k + 1) n in
    omega (arith, both, rest)

block_word : (k n l i : ℕ) → l < n → i < block_words
    → slice_index (new_blocks k n) (block_words * l + i) ≡ slice_index (new_block (k + l)) i
block_word k zero l i inside within = absurd (omega (arith, inside))
block_word k (suc n) zero i inside within =
    let front : block_words * 0 + i ≡ i = omega arith in
    ap (slice_index (new_blocks k (suc n))) front
    ∙ get_or_append_left (new_block k) (new_blocks (k + 1) n) 0 i within
    ∙ ap (λ m. slice_index (new_block m) i) (omega arith)
block_word k (suc n) (suc l) i inside within =
    get_or-append_right (new_block k) (new_blocks (k + 1) n) block_words (block_words * suc l + i) 0 refl
    (omega arith)
    ∙ ap (slice_index (new_blocks (k + 1) n)) (omega arith)
    ∙ block_word (k + 1) n l i (omega (arith, inside)) within
    ∙ ap (λ m. slice_index (new_block m) i) (omega arith)

pub lines_are_new : LinesAreNew
lines_are_new z = record {
  apart = lines_keep_apart z.passes (cells_of z) (length (new_words z))
      (omega (arith, length-append (zeros head) blocks, zeros_length head, blocks_length 0 (cells_of z)));
  clock = in_head 8 (omega arith);
  passes = λ p inside. in_head (16 + 16 * p) (omega (arith, inside));
  blocks = λ k i inside within.
      get_or-append_right (zeros head) blocks head (head + block_words * k + i) 0 (zeros_length head) (omega arith)
      ∙ ap (slice_index blocks) (omega arith)
      ∙ block_word 0 (cells_of z) k i inside within
      ∙ ap (λ m. slice_index (new_block m) i) (omega arith);
}
  where
    head : ℕ
    head = 16 + 16 * z.passes

    blocks : List ℕ
    blocks = new_blocks 0 (cells_of z)

    in_head : (i : ℕ) → i < head → slice_index (new_words z) i ≡ 0
    in_head i inside = get_or_append_left (zeros head) blocks 0 i (omega (arith, inside, zeros_length head))
        ∙ zeros_zero head i

-- ---- the contents of a new store

new_stored : (z : Config) (at : Layout) (heap : Global) (words : List ℕ) → 1 ≤ z.leaves
    → AreNewWords z at words
    → IsStored z heap (words_of z at words) (new_known z)
new_stored z at heap words some_leaves new =
    let is : IsIndexed heap (new_index z.leaves) new_cell = new_indexed heap z.leaves some_leaves in
    let table = table_of heap new_cell z.leaves in
    let first : segments_at table 0 ≡ leaf_cells new_cell 0 =
    segments_table heap new_cell z.leaves 0 (omega (arith, some_leaves)) in
    let no_rows : rows_of (segments_at table 0) ≡ [] = ap rows_of first in
    let none : rows_of (segments_at table 0 ++ []) ≡ [] = ap rows_of (append-nil (segments_at table 0))
    ∙ no_rows in
    let rows : (q : Key) → versions_of (store_of heap (new_index z.leaves) new_cell) q ≡ nothing = (λ q.
    versions_in_rows (store_of heap (new_index z.leaves) new_cell) q
    (kept_leaves (new_index z.leaves) table is.kept) ∙ ap (λ rs. or_nothing (find key_cmp q rs)) none) in
    let part : Part = record { leaf = 0; segments = segments_at table 0 } in
    let idle : z.leaves - 1 - length (range_with_len 1 (z.leaves - 1)) ≡ 0 =
    omega (arith, length-range_with_len 1 (z.leaves - 1)) in
    let few = ap length no_rows in
    let light : weight (store_of heap (new_index z.leaves) new_cell) ≡ 0 =
    omega (arith, weight_one part, idle, few) in
    record {
      shared = subst (λ (x : (ℕ → ℕ) × (Key → StampedVersions) × ℕ). IsShared z x.0
          (λ _. fresh_pass) no_journal x.1 x.2)
          (λ i. ((λ p. no_word p i), (λ q. sym (rows q) i), sym new.clock i)) (new_shared z);
      indexed = is;
      leaves = refl;
      weighed = omega (arith, light);
      blocks = record {
        wide = λ k inside. refl;
        mirror = λ k i inside small. mirrored k i inside small;
        spells = λ k inside free. new_spells k;
        versions = λ k inside. inl refl;
      };
      pinned = record {
        held = λ p on. absurd (true≢false (sym on));
        ready = λ p on. absurd (true≢false (sym on));
        within = λ p w e. let f : None ≡ Some w = e in cc;
        swept = λ p w e. let f : None ≡ Some w = e in cc;
      };
      noted = record {
        stands = λ p l on. absurd (true≢false (sym on));
        found = λ p w e. let f : None ≡ Some p = e in cc;
      };
      fast = λ p l on. absurd (true≢false (sym on));
    }
  where
    no_word : (p : ℕ) → 0 ≡ (words_of z at words).pass p
    no_word p = sym (by_test (nat_lt p z.passes) refl)
      where
        by_test : (b : Bool) → nat_lt p z.passes ≡ b → cond b (slice_index words (at.pass p)) 0 ≡ 0
        by_test true e = new.passes p (grind (arith, nat_tests))
        by_test false e = refl

    mirrored : (k i : ℕ) → k < cells_of z → i < block_words
        → (words_of z at words).block k i ≡ slice_index (new_block k) i
    mirrored k i inside small =
        let a : nat_lt k (cells_of z) ≡ true = grind (arith, nat_tests) in
        let b : nat_lt i block_words ≡ true = grind (arith, nat_tests) in
        (λ t. cond (a t && b t) (slice_index words (at.cell k + i)) 0) ∙ new.blocks k i inside small

-- ---- the table

numbered_is : {A : Type 0} (f : ℕ → A) (n k : ℕ) (b : A) → kept_at (numbered f n) k ≡ Some b → f k ≡ b
numbered_is f zero k b e = cc
numbered_is f (suc n) k b e = by_test (k == n) refl e (numbered_is f n k b)
  where
    by_test : (t : Bool) → (k == n) ≡ t → cond t (Some (f n)) (kept_at (numbered f n) k) ≡ Some b
        → (kept_at (numbered f n) k ≡ Some b → f k ≡ b) → f k ≡ b
    by_test true same h rest = ap f (eq_of k n same) ∙ some_is (f n) b h
    by_test false same h rest = rest h

-- there is one seat
first_only : (v u : Sight) (seat : ℕ) → get_elem? (v ∷ []) seat ≡ some u → (seat ≡ 0) × (v ≡ u)
first_only v u zero e = (refl, some-injective v u e)
first_only v u (suc seat) e = absurd (some-ne-none u (sym e))

-- each list of its view is of all there is
only_one : {A : Type 0} (part : Sight → List (ℕ × A)) (v : Sight) (f : ℕ → A) (n : ℕ) → part v ≡ numbered f n
    → Keeps part (v ∷ []) f (λ _. 0)
only_one part v f n is seat u k a here has =
    let t = first_only v u seat here in
    (sym t.0, numbered_is f n k a (ap (λ l. kept_at l k) (sym is ∙ ap part t.1) ∙ has))

pub table_begins : TableBegins
table_begins z at heap words k apart stored none_out =
    let v = sight_of z k in
    record {
      apart = apart;
      known = k;
      pass_keeper = λ _. 0;
      pin_keeper = λ _. 0;
      cell_keeper = λ _. 0;
      index_keeper = λ _. 0;
      journal_keeper = λ _. 0;
      passes = only_one (λ (u : Sight). u.passes) v k.pass z.passes refl;
      pins = only_one (λ (u : Sight). u.pins) v k.pin z.passes refl;
      cells = only_one (λ (u : Sight). u.cells) v k.cell (cells_of z) refl;
      indexes = only_one (λ (u : Sight). u.indexes) v k.index 1 refl;
      journals = only_one (λ (u : Sight). u.journals) v k.journal 1 refl;
      told = λ seat u here. (
        (k.journal 0).commits,
        ap (λ (x : Sight). x.told ++ (k.journal 0).commits) (sym (first_only v u seat here).1),
      );
      readers = record { each = tt; out = λ p. sym (none_out p) };
      reads = λ seat u q here has. let f : None ≡ Some q =
          ap (λ (x : Sight). x.reads.reading) (first_only v u seat here).1 ∙ has in cc;
      stored = stored;
    }

pub new_table : NewTable
new_table z at heap words some_leaves new =
    table_begins z at heap words (new_known z) new.apart (new_stored z at heap words some_leaves new) (λ p. refl)

-- ---- the end

pub table_closes : TableCloses
table_closes z at heap s r id v here j all =
    let k = r.known in
    let j_is : k.journal 0 ≡ j = (r.journals id v 0 j here all.journal).1 in
    let is : (p : ℕ) (st : PassState) → HasPass v p st → k.pass p ≡ st =
    (λ p st has. (r.passes id v p st here has).1) in
    record {
      pass = k.pass;
      passes = λ p inside. let h = all.passes p inside in h.1
          ∙ ap (λ (u : PassState). Some u) (sym (is p h.0 h.1));
      rows = rows_now heap k;
      closed = subst (λ (u : JournalState). IsClosed z k.pass u.commits (rows_now heap k)) j_is
          (closes r.stored.shared (λ p inside.
          let h = all.passes p inside in
          let e = is p h.0 h.1 in
          (ap (λ (u : PassState). u.stage) e ∙ h.2, ap (λ (u : PassState). u.unstamped) e ∙ h.3)));
      shown = λ n c q row.
          let e = (r.cells id v n c here row.cell).1 in
          let inside = row.inside in
          let leaves = r.stored.leaves in
          ap (λ (d : CellState). versions_at d.segment q) (sym e)
          ∙ sym (cells_show heap (k.index 0).index (segment_of k.cell) r.stored.indexed n q
          (omega (arith, leaves, inside))
          (ap (λ (d : CellState). covers d.segment q) e ∙ row.covered));
    }

-- and what it knows of the rows of the cells
pub store_closes : StoreCloses
unfolding table_closes
store_closes z at heap s r id v here j all =
    let k = r.known in
    record {
      last = table_closes z at heap s r id v here j all;
      heap = heap;
      cell = k.cell;
      cells = λ n c has. (r.cells id v n c here has).1;
      spells = r.stored.blocks.spells;
      index = λ y has. subst (λ (x : IndexState). HaveRows z heap x.index k.cell (rows_now heap k))
          (r.indexes id v 0 y here has).1
          (record { indexed = r.stored.indexed; leaves = r.stored.leaves; rows_are = λ q. refl });
    }
