-- A store of one word of a held cell's block: the contents stay, and so does all else.
use Rattle.std.proofs.Common.{◌≡◌, ℕ, ◌<◌, ◌≤◌, [], ◌∷◌, sym, subst}
use Rattle.std.specs.declared.alloc.Global.{Global}
use mathlib.Core.Option.{some}
use lib.ListN.{get_elem?}
use Rattle.atomic_table.specs.Table.{keeps, stepped}
use Rattle.txn_manager.specs.declared.config.Config.{Config}
use Rattle.store_relation.specs.VersionSegment.Rows.{VersionedRows}
use Rattle.cells_model.specs.LeafStore.Leaves.{versions_of, weight}
use Rattle.seat_views.specs.Keeping.{put, revised}
use Rattle.seat_views.proofs.NumberLemmas.{none_kept, one_kept}
use Rattle.store_relation.specs.Shared.{IsShared, inserted_by_all}
use Rattle.store_relation.proofs.ListLemmas.{prefix_all}
use Rattle.cells_model.specs.BlockLaws.{KeepsBlocks}
use Rattle.cells_model.specs.Cells.{CellState}
use Rattle.cells_model.specs.Indexed.{store_of, IsIndexed}
use Rattle.cells_model.specs.InPlace.{segment_of}
use Rattle.cells_model.specs.Words.{block_words}
use Rattle.rule_model.specs.Places.{Layout, block_place, put_word}
use Rattle.rule_model.specs.Sight.{News, HasCell, cells_of, no_news, with_cell}
use Rattle.rule_model.specs.Rule.{IsStoreRule, words_of}
use Rattle.rule_model.proofs.FrameLemmas.{S, M, cell_is, own_read, part_same, steps_to}
use Rattle.rule_model.proofs.PlaceLemmas.{block_word_stored}

pub by_block : {z : Config} {at : Layout} {heap : Global} {s : S} (r : IsStoreRule z at heap s) (id : ℕ)
    (me : M) (here : get_elem? s.views id ≡ some me.0)
    (k : ℕ) (c : CellState) → HasCell me.0 k c → k < cells_of z → (F : CellState → CellState)
    → ((d : CellState) → (F d).segment ≡ d.segment)
    → (i n : ℕ) → i < block_words
    → KeepsBlocks (cells_of z) (put_word (words_of z at s.words).block k i n) r.known.cell
    (revised r.known.cell ((k, F (r.known.cell k)) ∷ []))
    → IsStoreRule z at heap (stepped s (block_place at k i) n id me.1 (with_cell me.0 k (F c)) keeps)
by_block {z} {at} {heap} {s} r id me here k c has inside F keeps_contents i n small kept =
    let old = r.stored in
    let cell = r.known.cell in
    let c' : CellState = F (cell k) in
    let news : News = record no_news { cells = (k, c') ∷ [] } in
    let words = words_of z at s.words in
    let index = (r.known.index 0).index in
    let same : ◌≡◌ {A = ℕ → VersionedRows} (segment_of cell) (segment_of (put cell k c')) =
    sym (part_same (λ (d : CellState). d.segment) cell k c' (keeps_contents (cell k))) in
    subst (λ (d : CellState). IsStoreRule z at heap
    (stepped s (block_place at k i) n id me.1 (with_cell me.0 k (F d)) keeps))
    (cell_is r id me here k c has)
    (steps_to r id me here (block_place at k i) n
    (record words { block = put_word words.block k i n }) news me.0.reads
    (block_word_stored at z.passes (cells_of z) s.words r.apart k i n inside small)
    (record {
      passes = none_kept me.0.passes;
      pins = none_kept me.0.pins;
      cells = one_kept me.0.cells k c c' has;
      indexes = none_kept me.0.indexes;
      journals =
          none_kept me.0.journals;
    })
    (record {
      grows = prefix_all (r.known.journal 0).commits;
      readers = r.readers;
      others = kept.reads;
      own = λ q e. kept.reads q (own_read r id me here q e);
    })
    (record {
      shared = subst (λ (seg : ℕ → VersionedRows). IsShared z words.pass r.known.pass (r.known.journal 0)
          (versions_of (store_of heap index seg)) words.clock) same old.shared;
      indexed = subst (IsIndexed heap index) same old.indexed;
      leaves = old.leaves;
      weighed = subst (λ (seg : ℕ → VersionedRows).
          weight (store_of heap index seg) ≤ inserted_by_all z r.known.pass) same old.weighed;
      blocks = kept.blocks;
      pinned = old.pinned;
      noted = old.noted;
      fast = old.fast;
    }))
