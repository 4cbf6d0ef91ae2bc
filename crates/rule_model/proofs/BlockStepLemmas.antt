-- A holder's steps on a block keep the rule, and so do the loads of a read, whose end tells what a snapshot
-- sees.
use Rattle.std.proofs.Common.{◌≡◌, ℕ, ◌<◌, [], ◌∷◌, refl, sym, ◌∙◌, ap, subst, cond, arith}
use Rattle.std.specs.Prelude.{true, false, ◌&&◌, nat_lt, Some, slice_index}
use Rattle.std.specs.declared.alloc.Global.{Global}
use Rattle.std.proofs.lemmas.Bool.Decides.{nat_tests}
use mathlib.Core.Option.{some}
use lib.ListN.{get_elem?}
use Rattle.atomic_table.specs.Table.{keeps, stepped}
use Rattle.graph_model.specs.declared.row.Key.{Key}
use Rattle.graph_model.specs.Transactions.{stamp_in}
use Rattle.store_model.specs.Stamped.{read_stamped}
use Rattle.txn_manager.specs.declared.config.Config.{Config}
use Rattle.store_relation.specs.VersionSegment.Rows.{VersionedRows, versions_at}
use Rattle.seat_views.specs.Keeping.{revised}
use Rattle.seat_views.proofs.NumberLemmas.{some_is}
use Rattle.store_relation.specs.Passes.{PassState, name_at}
use Rattle.store_relation.specs.ReadLaws.{SeesValue}
use Rattle.store_relation.specs.Readers.{IsReader}
use Rattle.store_relation.proofs.ReadLemmas.{reads_seen}
use Rattle.store_relation.proofs.ReaderLemmas.{reader_reads}
use Rattle.cells_model.specs.BlockLaws.{KeepsBlocks}
use Rattle.cells_model.specs.Cells.{CellState, lowered_word, packed, raised_word, stored, unpacked, version_word}
use Rattle.cells_model.specs.InPlace.{segment_of}
use Rattle.cells_model.specs.Indexed.{covers}
use Rattle.cells_model.specs.Reads.{Reading, IsReading, IsValidated, first_loaded, second_loaded, word_loaded}
use Rattle.cells_model.specs.Words.{Spells, block_words}
use Rattle.cells_model.proofs.BlockLemmas.{packs_cell, stores_word, unpacks_cell}
use Rattle.cells_model.proofs.IndexedLemmas.{cells_show}
use Rattle.cells_model.proofs.ReadLemmas.{first_load_begins, second_load_goes_on, second_load_validates, word_load_goes_on}
use Rattle.rule_model.specs.Places.{Layout, block_place, put_word}
use Rattle.rule_model.specs.Sight.{cells_of, with_cell, with_found, with_reading}
use Rattle.rule_model.specs.Rule.{IsStoreRule, rows_now, words_of}
use Rattle.rule_model.specs.Steps.{OfEachSeat}
use Rattle.rule_model.specs.BlockSteps.{GiveView, HolderLoads, CellIsUnpacked, WordIsStored, CellIsPacked, ReadBegins, WordIsRead, ReadEnds, ReaderReadEnds}
use Rattle.rule_model.proofs.BlockFrame.{by_block}
use Rattle.rule_model.proofs.FrameLemmas.{S, M, by_nothing, cell_is, own_read, pass_is}
use Rattle.rule_model.proofs.NoteStepLemmas.{reader_is}
use Rattle.rule_model.proofs.PlaceLemmas.{word_put}

-- ---- by the holder

-- the word in memory is that of the block
pub word_in : {z : Config} {at : Layout} {heap : Global} {s : S} (r : IsStoreRule z at heap s) (k i : ℕ)
    → k < cells_of z → i < block_words
    → slice_index s.words (block_place at k i) ≡ (words_of z at s.words).block k i
word_in {z} {at} {heap} {s} r k i inside small =
    let a : nat_lt k (cells_of z) ≡ true = grind (arith, nat_tests) in
    let b : nat_lt i block_words ≡ true = grind (arith, nat_tests) in
    (λ t. cond (sym a t && sym b t) (slice_index s.words (block_place at k i)) 0)

pub holder_loads : OfEachSeat HolderLoads
holder_loads z at heap slots id me k i c has inside small s r homes here bound = (
  me.0,
  keeps,
  tt,
  by_nothing r id me here (block_place at k i) me.0.reads (own_read r id me here),
  (
    refl,
    word_in r k i inside small ∙ r.stored.blocks.mirror k i inside small
        ∙ ap (λ (d : CellState). slice_index d.block i) (cell_is r id me here k c has),
  ),
)

pub cell_is_unpacked : OfEachSeat CellIsUnpacked
cell_is_unpacked z at heap slots id me k c has inside free s r homes here bound =
    let old = r.stored in
    let cell = r.known.cell in
    let c_is = cell_is r id me here k c has in
    let free' : (cell k).unpacked ≡ false = ap (λ (d : CellState). d.unpacked) c_is ∙ free in
    let block = (words_of z at s.words).block in (
      with_cell me.0 k (unpacked c),
      keeps,
      tt,
      by_block r id me here k c has inside unpacked (λ d. refl) 0 (raised_word (version_word c)) (omega arith)
          (subst (λ (d : CellState). KeepsBlocks (cells_of z)
          (put_word block k 0 (raised_word (version_word d))) cell
          (revised cell ((k, unpacked (cell k)) ∷ []))) c_is
          (unpacks_cell (cells_of z) block (put_word block k 0 (raised_word (version_word (cell k)))) cell
          old.blocks k inside free' (word_put block k 0 (raised_word (version_word (cell k)))))),
      (refl, subst (λ (d : CellState). Spells d.block d.segment) c_is (old.blocks.spells k inside free')),
    )

pub word_is_stored : OfEachSeat WordIsStored
word_is_stored z at heap slots id me k i n c has inside least less loose s r homes here bound =
    let cell = r.known.cell in
    let c_is = cell_is r id me here k c has in
    let block = (words_of z at s.words).block in (
      with_cell me.0 k (stored c i n),
      keeps,
      tt,
      by_block r id me here k c has inside (λ d. stored d i n) (λ d. refl) i n less
          (stores_word (cells_of z) block (put_word block k i n) cell r.stored.blocks k i n inside least less
          (ap (λ (d : CellState). d.unpacked) c_is ∙ loose) (word_put block k i n)),
      refl,
    )

pub cell_is_packed : OfEachSeat CellIsPacked
cell_is_packed z at heap slots id me k c has inside loose spells s r homes here bound =
    let cell = r.known.cell in
    let c_is = cell_is r id me here k c has in
    let block = (words_of z at s.words).block in
    let word : CellState → ℕ = (λ d. lowered_word d.changed (version_word d)) in (
      with_cell me.0 k (packed c),
      keeps,
      tt,
      by_block r id me here k c has inside packed (λ d. refl) 0 (word c) (omega arith)
          (subst (λ (d : CellState). KeepsBlocks (cells_of z) (put_word block k 0 (word d)) cell
          (revised cell ((k, packed (cell k)) ∷ []))) c_is
          (packs_cell (cells_of z) block (put_word block k 0 (word (cell k))) cell r.stored.blocks k inside
          (ap (λ (d : CellState). d.unpacked) c_is ∙ loose)
          (subst (λ (d : CellState). Spells d.block d.segment) (sym c_is) spells)
          (word_put block k 0 (word (cell k))))),
      refl,
    )

-- ---- by a read

pub read_begins : OfEachSeat ReadBegins
read_begins z at heap slots id me k inside s r homes here bound =
    let n : ℕ = slice_index s.words (block_place at k 0) in (
      with_found me.0 (first_loaded k n) k n,
      keeps,
      tt,
      by_nothing r id me here (block_place at k 0) (record {
        reading = first_loaded k n;
        found = record { cell = k; word = n } ∷ me.0.reads.found;
      })
          (λ q e. first_load_begins (cells_of z)
          (words_of z at s.words).block r.known.cell r.stored.blocks k q inside
          (subst (λ m. first_loaded k m ≡ Some q) (word_in r k 0 inside (omega arith)) e)),
      (refl, tt),
    )

pub word_is_read : OfEachSeat WordIsRead
word_is_read z at heap slots id me q i reading least less s r homes here bound =
    let n : ℕ = slice_index s.words (block_place at q.cell i) in
    let h = own_read r id me here q reading in
    let goes = word_load_goes_on (cells_of z)
    (words_of z at s.words).block r.known.cell r.stored.blocks q i h least less in (
      with_reading me.0 (Some (word_loaded q i n)),
      keeps,
      tt,
      by_nothing r id me here (block_place at q.cell i)
          (record me.0.reads { reading = Some (word_loaded q i n) })
          (λ u e. subst (IsReading (cells_of z) r.known.cell) (some_is (word_loaded q i n) u e)
          (subst (λ m. IsReading (cells_of z) r.known.cell (word_loaded q i m))
          (sym (word_in r q.cell i h.inside less)) goes)),
      (refl, tt),
    )

module _ {z : Config} {at : Layout} {heap : Global} {s : S} (r : IsStoreRule z at heap s) (id : ℕ) (me : M)
    (here : get_elem? s.views id ≡ some me.0)
    (q : Reading) (reading : me.0.reads.reading ≡ Some q) where
  -- the read goes on, whatever was found
  second_keeps : (n : ℕ) → IsStoreRule z at heap
      (stepped s (block_place at q.cell 0) (slice_index s.words (block_place at q.cell 0)) id me.1
      (with_found me.0 (Some (second_loaded q n)) q.cell n) keeps)
  second_keeps n = by_nothing r id me here (block_place at q.cell 0)
      (record {
        reading = Some (second_loaded q n);
        found = record { cell = q.cell; word = n } ∷ me.0.reads.found;
      })
      (λ u e. subst (IsReading (cells_of z) r.known.cell) (some_is (second_loaded q n) u e)
      (second_load_goes_on (cells_of z) r.known.cell q n (own_read r id me here q reading)))

  -- and where it is the first word, what was loaded is of contents of which this holds now
  validated : (holds : VersionedRows → Type 0) → holds (r.known.cell q.cell).segment
      → slice_index s.words (block_place at q.cell 0) ≡ q.first → IsValidated holds q
  validated holds fact again =
      let h = own_read r id me here q reading in
      let v = second_load_validates (cells_of z) (words_of z at s.words).block r.known.cell r.stored.blocks q h
      (sym (word_in r q.cell 0 h.inside (omega arith)) ∙ again) in
      record {
        block = v.block;
        segment = v.segment;
        loaded = v.loaded;
        spells = v.spells;
        fact = subst holds (sym v.fact) fact;
      }

  -- the cell's contents are those of its keys
  shown : (key : Key) → covers (r.known.cell q.cell).segment key ≡ true
      → versions_at (r.known.cell q.cell).segment key ≡ rows_now heap r.known key
  shown key covered =
      let h = (own_read r id me here q reading).inside in
      let leaves = r.stored.leaves in
      sym (cells_show heap (r.known.index 0).index (segment_of r.known.cell) r.stored.indexed q.cell key
      (omega (arith, h, leaves)) covered)

pub read_ends : OfEachSeat ReadEnds
read_ends z at heap slots id me p st q has opened reading s r homes here bound =
    let st_is = pass_is r id me here p st has in
    let n : ℕ = slice_index s.words (block_place at q.cell 0) in (
      with_found me.0 (Some (second_loaded q n)) q.cell n,
      keeps,
      tt,
      second_keeps r id me here q reading n,
      (
        refl,
        validated r id me here q reading (GiveView z st.seen st.start st.own (name_at p st)) (λ key covered.
            ap (read_stamped (stamp_in st.seen) st.start (name_at p st))
            (shown r id me here q reading key covered)
            ∙ subst (λ (u : PassState). SeesValue z u.seen u.start u.own (name_at p u) (stamp_in u.seen) key
            (rows_now heap r.known key)) st_is
            (reads_seen r.stored.shared p (ap (λ (u : PassState). u.stage) st_is ∙ opened) key)),
      ),
    )

pub reader_read_ends : OfEachSeat ReaderReadEnds
reader_read_ends z at heap slots id me x q has reading s r homes here bound =
    let reader = reader_is (IsReader r.known.pass (r.known.journal 0).commits) s.views id me.0 x here has
    r.readers.each in
    let n : ℕ = slice_index s.words (block_place at q.cell 0) in (
      with_found me.0 (Some (second_loaded q n)) q.cell n,
      keeps,
      tt,
      second_keeps r id me here q reading n,
      (
        refl,
        validated r id me here q reading (GiveView z x.seen x.start x.own x.by) (λ key covered.
            ap (read_stamped (stamp_in x.seen) x.start x.by) (shown r id me here q reading key covered)
            ∙ reader_reads r.stored.shared x reader key),
      ),
    )
