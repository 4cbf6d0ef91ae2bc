-- Contents of held cells change, with a pass whose transaction goes on, or with the index. No word does.
use Rattle.std.proofs.Common.{◌≡◌, inl, inr, ℕ, ◌≤◌, List, [], ◌∷◌, refl, sym, ◌∙◌, ap, subst, cond, arith}
use Rattle.std.specs.Prelude.{Bool, true, false, ◌==◌, Some, slice_index}
use Rattle.std.specs.List.{AllByRecursion, flat_map}
use Rattle.std.specs.declared.alloc.Global.{Global}
use Rattle.std.proofs.lemmas.Bool.{true≢false}
use mathlib.Core.Option.{some}
use lib.ListN.{get_elem?}
use Rattle.atomic_table.specs.Table.{keeps, stepped}
use Rattle.txn_manager.specs.declared.config.Config.{Config}
use Rattle.cells_model.specs.LeafStore.Leaves.{weight}
use Rattle.seat_views.specs.Keeping.{kept_at, revised, AreKept}
use Rattle.seat_views.proofs.NumberLemmas.{eq_of, none_kept, none_or_some, revised-none, revised-some, some_is}
use Rattle.epoch_reclaim.specs.Pinned.{IsPinned}
use Rattle.store_relation.specs.Passes.{PassState}
use Rattle.store_relation.specs.Readers.{AreReaders}
use Rattle.store_relation.specs.Shared.{IsShared, inserted_by_all}
use Rattle.store_relation.proofs.ListLemmas.{prefix_all}
use Rattle.cells_model.specs.Cells.{CellState, ChangesContents}
use Rattle.cells_model.specs.Indexed.{covers, IsIndexed}
use Rattle.cells_model.specs.InPlace.{AreInPlace, segment_of}
use Rattle.cells_model.specs.Noted.{AreNoted}
use Rattle.cells_model.proofs.BlockLemmas.{changes_cells}
use Rattle.rule_model.specs.Places.{Layout}
use Rattle.rule_model.specs.Sight.{IndexState, Sight, Known, Agrees, after, cells_of, no_news, with_news}
use Rattle.rule_model.specs.Rule.{IsStoreRule, active_of, announced_of, leaves_now, noted_of, rows_now, start_of, sweep_of, words_of}
use Rattle.rule_model.specs.RowSteps.{AreChanges, AreHeld, IsHeldNews}
use Rattle.rule_model.proofs.FrameLemmas.{S, M, cell_is, loaded, own_read, steps_to}

-- what holds of each of the news holds of what they have of a number
pub each_kept : (P : ℕ → CellState → Type 0) (news : List (ℕ × CellState))
    → AllByRecursion (λ e. P e.0 e.1) news
    → (k : ℕ) (d : CellState) → kept_at news k ≡ Some d → P k d
each_kept P [] all k d e = cc
each_kept P (x ∷ xs) all k d e = by_test (k == x.0) refl e (each_kept P xs all.1 k d)
  where
    by_test : (b : Bool) → (k == x.0) ≡ b → cond b (Some x.1) (kept_at xs k) ≡ Some d
        → (kept_at xs k ≡ Some d → P k d) → P k d
    by_test true is e rest = subst (λ (y : ℕ × CellState). P y.0 y.1)
        (λ i. (sym (eq_of k x.0 is) i, some_is x.1 d e i)) all.0
    by_test false is e rest = rest e

pub all_held : (z : Config) (v : Sight) (news : List (ℕ × CellState)) → AreChanges z v news → AreHeld z v news
all_held z v [] all = tt
all_held z v (e ∷ es) all = (all.0.held, all_held z v es all.1)

-- changes of cells that the view has are changes in place
pub all_in_place : (z : Config) (v : Sight) (leaves : ℕ) (cell : ℕ → CellState) → Agrees v cell
    → leaves ≡ z.leaves
    → (news : List (ℕ × CellState)) → AreChanges z v news → AreInPlace leaves cell news
all_in_place z v leaves cell agrees same [] all = tt
all_in_place z v leaves cell agrees same (e ∷ es) all =
    let c = all.0 in
    let is : cell e.0 ≡ c.held.cell = agrees e.0 c.held.cell c.held.has in
    let i = c.held.inside in (
      record {
        inside = omega (arith, i, same);
        low = c.low ∙ ap (λ (d : CellState). d.segment.low) (sym is);
        high = c.high ∙ ap (λ (d : CellState). d.segment.high) (sym is);
        sound = c.sound;
        key = c.key;
        covered = ap (λ (d : CellState). covers d.segment c.key) is ∙ c.covered;
      },
      all_in_place z v leaves cell agrees same es all.1,
    )

-- no word changes, and no cell that isn't unpacked
pub held_same : (cell : ℕ → CellState) (news : List (ℕ × CellState))
    → ((k : ℕ) (d : CellState) → kept_at news k ≡ Some d → ChangesContents (cell k) d)
    → (k : ℕ) → ChangesContents (cell k) (revised cell news k)
held_same cell news all k = elim (none_or_some (kept_at news k)) as
    (λ _. ChangesContents (cell k) (revised cell news k)) [
      | inl none ↦ subst (ChangesContents (cell k)) (sym (revised-none cell news k none))
          (record { block = refl; unpacked = refl; changed = refl; segment = λ _. refl })
      | inr h ↦ subst (ChangesContents (cell k)) (sym (revised-some cell news k h.0 h.1)) (all k h.0 h.1)
    ]

module _ {z : Config} {at : Layout} {heap : Global} {s : S} (r : IsStoreRule z at heap s) (id : ℕ) (me : M)
    (here : get_elem? s.views id ≡ some me.0)
    (news : List (ℕ × CellState)) (held : AreHeld z me.0 news) where
  contents_change : (k : ℕ) → ChangesContents (r.known.cell k) (revised r.known.cell news k)
  contents_change = held_same r.known.cell news (λ k d e.
      let h = each_kept (IsHeldNews z me.0) news held k d e in
      let is = cell_is r id me here k h.cell h.has in
      record {
        block = h.block ∙ ap (λ (c : CellState). c.block) (sym is);
        unpacked = h.unpacked ∙ ap (λ (c : CellState). c.unpacked) (sym is);
        changed = h.changed ∙ ap (λ (c : CellState). c.changed) (sym is);
        segment = λ free. absurd (true≢false (sym h.loose ∙ ap (λ (c : CellState). c.unpacked) (sym is)
            ∙ free));
      })

  of_held : AreKept me.0.cells news
  of_held k d e = let h = each_kept (IsHeldNews z me.0) news held k d e in (h.cell, h.has)

  -- what such a step has to show
  pub record RowsMove (k' : Known) : Type 0 where
    pub readers : AreReaders k'.pass (r.known.journal 0).commits (flat_map (λ (u : Sight). u.readers) s.views)
    pub active : ◌≡◌ {A = ℕ → Bool} (active_of r.known.pass) (active_of k'.pass)
    pub start : ◌≡◌ {A = ℕ → ℕ} (start_of r.known.pass) (start_of k'.pass)
    pub shared : IsShared z (words_of z at s.words).pass k'.pass (r.known.journal 0) (rows_now heap k')
        (words_of z at s.words).clock
    pub indexed : IsIndexed heap (k'.index 0).index (segment_of k'.cell)
    pub leaves : (k'.index 0).index.leaves ≡ z.leaves
    pub weighed : weight (leaves_now heap k') ≤ inserted_by_all z k'.pass
    pub noted : AreNoted (k'.index 0).index (active_of r.known.pass) (start_of r.known.pass)
        (noted_of r.known.pin) (sweep_of r.known.pin) (k'.index 0).sweeper

  -- a load of the clock, after which cells, a pass and the index are others
  pub by_change : (passes : List (ℕ × PassState)) (indexes : List (ℕ × IndexState)) → AreKept me.0.passes passes
      → AreKept me.0.indexes indexes
      → RowsMove (after r.known (record no_news { passes = passes; cells = news; indexes = indexes }))
      → IsStoreRule z at heap (stepped s at.clock (slice_index s.words at.clock) id me.1
      (with_news me.0 (record no_news { passes = passes; cells = news; indexes = indexes }) me.0.reads)
      keeps)
  by_change passes indexes of_passes of_indexes m =
      let k = r.known in
      let old = r.stored in
      let words = words_of z at s.words in
      let kept = changes_cells (cells_of z) words.block k.cell
      (revised k.cell news) old.blocks contents_change in
      steps_to r id me here at.clock (slice_index s.words at.clock) words
      (record no_news { passes = passes; cells = news; indexes = indexes }) me.0.reads
      (loaded r id me here at.clock)
      (record {
        passes = of_passes;
        pins = none_kept me.0.pins;
        cells = of_held;
        indexes = of_indexes;
        journals = none_kept me.0.journals;
      })
      (record {
        grows = prefix_all (k.journal 0).commits;
        readers = m.readers;
        others = kept.reads;
        own = λ q e. kept.reads q (own_read r id me here q e);
      })
      (record {
        shared = m.shared;
        indexed = m.indexed;
        leaves = m.leaves;
        weighed = m.weighed;
        blocks = kept.blocks;
        pinned = subst (λ (u : (ℕ → Bool) × (ℕ → ℕ)). IsPinned words.pin u.0 u.1 (announced_of k.pin)
            (sweep_of k.pin) words.clock) (λ i. (m.active i, m.start i)) old.pinned;
        noted = subst (λ (u : (ℕ → Bool) × (ℕ → ℕ)). AreNoted (revised k.index indexes 0).index u.0 u.1
            (noted_of k.pin) (sweep_of k.pin) (revised k.index indexes 0).sweeper)
            (λ i. (m.active i, m.start i)) m.noted;
        fast = λ o l on among. old.fast o l (ap (λ (u : ℕ → Bool). u o) m.active ∙ on) among;
      })
