-- A turn: the leaf in hand, the one behind it, and what the pass has before and after.
use Rattle.std.proofs.Common.{◌≡◌, ◌*◌, ◌≤◌, ℕ, List, [], ◌∷◌, ◌++◌, length, refl, sym, ◌∙◌, ap}
use Rattle.std.specs.Prelude.{Result, Ok, Err, IfOk, true, false}
use Rattle.std.proofs.lemmas.List.{length-map}
use Rattle.std.specs.declared.alloc.Global.{Global}
use Rattle.std.specs.declared.boxed.Box.{Box}
use Rattle.items.specs.declared.memory.NoMemory.{NoMemory}
use Rattle.graph_model.specs.declared.row.Key.{Key}
use Rattle.graph_model.specs.Rows.{end_key, is_below}
use Rattle.graph_model.proofs.KeyLemmas.{below_self}
use Rattle.density_tree.specs.declared.window.Window.{Window}
use Rattle.latch_table.specs.declared.cells.Held.{Held}
use Rattle.pass_moves.specs.LeafArray.Leaves.{window_of}
use Rattle.pass_moves.specs.LeafArray.Segments.{counts_of, rows_of}
use Rattle.leaf_index.specs.Calls.{IsLeafRange}
use Rattle.leaf_index.specs.Index.{Entry, Index, IsIndex, end_of}
use Rattle.leaf_index.specs.declared.index.LeafIndex.{LeafIndex}
use Rattle.leaf_index.specs.declared.route.LeafRange.{LeafRange}
use Rattle.pass_moves.specs.LeafStore.Merging.{IsLeftmostWindow}
use Rattle.pass_moves.specs.LeafStore.Pairs.{Stands}
use Rattle.pass_moves.proofs.LeafStore.RangeLemmas.{moved_over}
use Rattle.pass_moves.proofs.LeafStore.SparseLemmas.{sparse_few}
use Rattle.pass_moves.proofs.LeafStore.WalkLemmas.{floor_here}
use Rattle.pass_moves.specs.StoreRuleDeclared.store.Pass.{Pass}
use Rattle.pass_moves.specs.StoreRuleDeclared.store.Store.{Store}
use Rattle.pass_moves.specs.PassCells.Holding as cells
use Rattle.pass_moves.specs.PassCells.Holding.{KeepsPass}
use Rattle.pass_moves.specs.PassCellsDeclared.taken.TakenCell.{TakenCell}
use Rattle.pass_moves.specs.PassLeaves.Hand.{HoldsLeaves, IsLeafOfKey}
use Rattle.pass_moves.specs.Moving.{values_of}
use Rattle.pass_moves.proofs.KeyLemmas.{eight_cells, known_sound, one_leaf}
use Rattle.pass_sweeps.specs.PassSteps.Passes.{HoldsNone, IsPassOf}
use Rattle.pass_sweeps.specs.Stepping.{ChoosesLeaf, key_after}
use Rattle.pass_merges.specs.Pairs.{StandTogether}
use Rattle.pass_merges.specs.Turns.{IsPairTurn, IsTurnOf}
use Rattle.pass_merges.specs.declared.pair.LeafPair.{LeafPair}
use Rattle.pass_merges.specs.declared.turn.MergeTurn.{MergeTurn}
use Rattle.pass_merges.specs.declared.turn.MergeTurn.TheVariants.{Spread, Merged, Nothing}
use Rattle.pass_merges.proofs.PassLemmas.{pass_kept}

-- ---- what the pass has

-- nothing in hand, in the words of cells
pub no_cells : (store : Store) (pass : Pass) → IsPassOf store pass → HoldsNone pass → cells.HoldsNone store pass
no_cells store pass of none = record {
  latch = of.latch;
  out = none.latches;
  table = of.table;
  cells = none.contents.cells;
  buffers = none.buffers;
  indexes = none.contents.indexes;
}

-- and afterwards
pub pass_after : (store : Store) (old new : Pass) → IsPassOf store old → KeepsPass old new → cells.HoldsNone store new
    → IsPassOf store new
pass_after store old new of kept none = pass_kept store old new kept of none.latch none.table

pub none_after : (store : Store) (old new : Pass) → HoldsNone old → KeepsPass old new → cells.HoldsNone store new
    → HoldsNone new
none_after store old new was kept none = record {
  latches = none.out;
  buffers = none.buffers;
  contents = record {
    cells = none.cells;
    indexes = none.indexes;
    journals = kept.journals ∙ was.contents.journals;
  };
}

-- ---- the leaf in hand

-- a key's leaf has an entry
pub key_stands : (key : Key) (index : Index) (leaf : ℕ) → IsLeafOfKey key index leaf → Stands index.entries leaf
key_stands key index leaf own =
    let r = own.1 in
    record {
      front = r.floor.front;
      entry = r.entry;
      back = r.floor.back;
      is = r.floor.is;
      number = sym own.2 ∙ r.range_is.leaf;
    }

-- a sparse window of it has few rows
pub few_rows : (store : Store) (pass : Pass) (leaf : ℕ) (ts : List TakenCell) (index : Held (Box LeafIndex Global))
    (window : Window) → HoldsLeaves store pass (leaf ∷ []) ts index
    → IsLeftmostWindow (counts_of (values_of ts)) window
    → length (rows_of (window_of window (values_of ts))) ≤ 30 * window.len
few_rows store pass leaf ts index window holds first =
    sparse_few (values_of ts) window (length_values ts ∙ eight_cells store pass leaf ts index holds)
    (known_sound store.accounts.config pass.account.me.0 ts holds.known) first.sparse
  where
    length_values : (us : List TakenCell) → length (values_of us) ≡ length us
    length_values us = length-map us (λ u. u.held.value)

-- it is chosen by its range
pub chooses : (key key' : Key) (index : Index) (leaf : ℕ) (range : LeafRange) → IsLeafOfKey key index leaf
    → IsLeafRange key index.entries range → key' ≡ key_after range.high → ChoosesLeaf key key' leaf
chooses key key' index leaf range own at next = record {
  index = index;
  range = range;
  holds = at;
  leaf_is = one_leaf key index leaf range.leaf own (range, at, refl);
  next = next;
}

-- ---- the leaf behind

-- where a range ends that isn't the last one, the next leaf begins
pub next_to : (index : Index) (key : Key) (range next : LeafRange) (pair : LeafPair) → IsIndex index
    → IsLeafRange key index.entries range → is_below range.high end_key ≡ true
    → IsLeafRange range.high index.entries next → range.leaf ≡ pair.left → next.leaf ≡ pair.right
    → StandTogether pair index.entries
next_to index key range next pair ready at more behind left right =
    by_list at.floor.back at.range_is.high at.floor.is
  where
    clash : true ≡ false → StandTogether pair index.entries
    clash e = cc

    by_list : (back : List Entry) → range.high ≡ end_of back → index.entries ≡ at.floor.front ++ at.entry ∷ back
        → StandTogether pair index.entries
    by_list [] high is = clash (sym more ∙ ap (λ k. is_below k end_key) high ∙ below_self end_key)
    by_list (r ∷ rest) high is =
        let floor = floor_here index.entries (at.floor.front ++ at.entry ∷ []) r rest range.high behind.entry
        (is ∙ sym (moved_over at.floor.front at.entry (r ∷ rest))) high ready.rising behind.floor in
        record {
          front = at.floor.front;
          left = at.entry;
          right = r;
          back = rest;
          is = is;
          left_is = sym left ∙ at.range_is.leaf;
          right_is = sym right ∙ behind.range_is.leaf ∙ ap (λ (x : Entry). x.leaf) floor.entry;
        }

-- ---- what a turn answers

pub pair_turn : (pair : LeafPair) (r : Result MergeTurn NoMemory) → IfOk r (IsPairTurn pair)
    → IfOk r (IsTurnOf pair.left)
pair_turn pair (Ok (Spread spread)) turn = absurd turn
pair_turn pair (Ok (Merged merged)) turn = ap (λ (p : LeafPair). p.left) turn
pair_turn pair (Ok Nothing) turn = tt
pair_turn pair (Err refused) turn = tt
