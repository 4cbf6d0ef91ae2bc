-- The steps of a sweep keep the rule.
use Rattle.std.proofs.Common.{◌≡◌, ◌⊎◌, inl, inr, ℕ, ◌≤◌, List, [], length, refl, sym, ◌∙◌, ap, subst, arith}
use Rattle.std.specs.Prelude.{true, Option, Some, None, slice_index}
use Rattle.std.specs.declared.alloc.Global.{Global}
use mathlib.Core.Logic.{dite}
use mathlib.Core.Option.{some}
use native.Mathlib.Decide.{dec_le}
use lib.ListN.{get_elem?}
use Rattle.atomic_table.specs.Table.{keeps}
use Rattle.epoch_reclaim.specs.declared.sweep.Sweep.{Sweep}
use Rattle.epoch_reclaim.specs.Pinned.{IsPinned, horizon_of}
use Rattle.epoch_reclaim.proofs.PinLemmas.{horizon_safe}
use Rattle.graph_model.specs.declared.journal.Commit.{Commit}
use Rattle.graph_model.specs.declared.row.Key.{Key}
use Rattle.graph_model.specs.Transactions.{stamp_in}
use Rattle.txn_manager.specs.declared.config.Config.{Config}
use Rattle.store_model.specs.Stamped.{AreTold, StampedVersions, prune_stamped}
use Rattle.store_model.proofs.ToldLemmas.{told_all}
use Rattle.pass_steps.specs.VersionSegment.Rows.{versions_at}
use Rattle.pass_steps.specs.LeafStore.Leaves.{versions_of, weight}
use Rattle.seat_views.specs.Keeping.{kept_at, revised}
use Rattle.seat_views.proofs.NumberLemmas.{none_kept}
use Rattle.pass_steps.specs.StoreRelationDeclared.stage.Stage.{Stage}
use Rattle.pass_steps.specs.StoreRelationDeclared.stage.Stage.TheVariants.{Idle, Open, Aborting, Committing}
use Rattle.pass_steps.specs.StoreRelation.Passes.{PassState, is_active, may_commit, name_of, now_of}
use Rattle.pass_steps.specs.StoreRelation.Shared.{IsShared, inserted_by_all}
use Rattle.pass_steps.specs.StoreRelation.Steps.{refreshed}
use Rattle.pass_steps.proofs.StoreRelation.LearnLemmas.{tells}
use Rattle.pass_steps.proofs.StoreRelation.ListLemmas.{prefix_all, prefix_length}
use Rattle.pass_steps.proofs.StoreRelation.ReadLemmas.{seen_reached}
use Rattle.pass_steps.proofs.StoreRelation.RowStepLemmas.{prunes}
use Rattle.pass_steps.proofs.StoreRelation.SharedLemmas.{inside, runs}
use Rattle.pass_steps.proofs.StoreRelation.StepLemmas.{refreshes}
use Rattle.pass_steps.specs.CellsModel.Cells.{CellState}
use Rattle.pass_steps.specs.CellsModel.Indexed.{covers, store_of}
use Rattle.pass_steps.specs.CellsModel.InPlace.{AreInPlace, ChangesInPlace, segment_of}
use Rattle.pass_steps.specs.CellsModel.Noted.{AreNoted}
use Rattle.pass_steps.proofs.CellsModel.InPlaceLemmas.{NoneCovers, cells_change_in_place, rows_changed}
use Rattle.pass_steps.specs.RuleModel.Places.{Layout}
use Rattle.pass_steps.specs.RuleModel.Rule.{IsStoreRule, active_of, announced_of, noted_of, rows_now, start_of, sweep_of, words_of}
use Rattle.pass_steps.specs.RuleModel.RowSteps.{AreChanges, GrowsBy, IsChange}
use Rattle.pass_steps.specs.RuleModel.Sight.{HasCell, HasPass, IndexState, PinState, with_cells, with_pass}
use Rattle.pass_steps.specs.RuleModel.Steps.{OfEachSeat}
use Rattle.pass_steps.specs.RuleModel.PinSteps.{with_sweeper}
use Rattle.pass_steps.proofs.RuleModel.FrameLemmas.{S, M, by_nothing, cell_is, cells_agree, index_is, loaded, own_read, pin_is, put_same}
use Rattle.pass_steps.proofs.RuleModel.NoteStepLemmas.{record_is, seen_front}
use Rattle.pass_steps.proofs.RuleModel.PassFrame.{by_quiet}
use Rattle.pass_steps.proofs.RuleModel.PinFrame.{by_sweeper}
use Rattle.pass_steps.proofs.RuleModel.PinStepLemmas.{other_sweep_begins_step, sweeper_begins_step}
use Rattle.pass_steps.proofs.RuleModel.RowFrame.{all_held, all_in_place, by_change, each_kept}
use Rattle.pass_steps.proofs.RuleModel.TxnLemmas.{knows_more}
use Rattle.pass_sweeps.specs.SweepLaws.{LeavesAreKnown, OtherSweepIsBehind, PublishedIsSeen, RowsArePrunedAsSeen, SweeperIsBehind, SweeperYields, WritersAreKnown}

-- ---- the clock

-- the clock is no less than what a pass has seen
clock_above : {z : Config} {at : Layout} {heap : Global} {s : S} (r : IsStoreRule z at heap s) (id : ℕ) (me : M)
    → get_elem? s.views id ≡ some me.0 → (p : ℕ) (st : PassState) → HasPass me.0 p st
    → length st.seen ≤ slice_index s.words at.clock
clock_above r id me here p st has =
    let long = prefix_length st.seen (r.known.journal 0).commits (seen_front r id me here p st has) in
    let published = r.stored.shared.published in
    omega (arith, long, published)

pub sweeper_is_behind : OfEachSeat SweeperIsBehind
sweeper_is_behind z at heap slots id me p st x y has has_x has_y calm s r homes here small =
    let y = sweeper_begins_step z at heap slots id me p x y has_x has_y calm s r homes here small in
    (y.0, y.1, y.2, y.3, (y.4.0, clock_above r id me here p st has))

pub other_sweep_is_behind : OfEachSeat OtherSweepIsBehind
other_sweep_is_behind z at heap slots id me p st x has has_x s r homes here small =
    let y = other_sweep_begins_step z at heap slots id me p x has_x s r homes here small in
    (y.0, y.1, y.2, y.3, (y.4.0, clock_above r id me here p st has))

-- ---- what is seen

pub published_is_seen : OfEachSeat PublishedIsSeen
published_is_seen z at heap slots id me p st x has has_x s r homes here small =
    let k = r.known in
    let h = r.stored.shared.each p in
    let commits : List Commit = (k.journal 0).commits in
    let long = prefix_length (k.pass p).seen commits h.seen in
    let started = h.started in
    let published = r.stored.shared.published in (
      with_pass me.0 p (refreshed st commits),
      keeps,
      tt,
      by_quiet r id me here p st has (λ u. refreshed u commits) at.clock
          (knows_more r id me here p (refreshed (k.pass p) commits) refl refl refl refl refl)
          (refreshes r.stored.shared p commits (prefix_all commits) (omega (arith, long, started))),
      (
        commits,
        refl,
        record {
          count = published;
          front = seen_front r id me here p st has;
          legal = r.stored.shared.store.transactions.legal;
          behind = λ w e.
              r.stored.pinned.within p w (ap (λ (u : PinState). u.sweep) (pin_is r id me here p x has_x) ∙ e);
        },
      ),
    )

pub writers_are_known : OfEachSeat WritersAreKnown
writers_are_known z at heap slots id me p st has s r homes here small = (
  me.0,
  keeps,
  tt,
  by_nothing r id me here at.clock me.0.reads (own_read r id me here),
  (
    refl,
    record {
      published = clock_above r id me here p st has;
      writers = λ k c q y there bare.
          (tells r.stored.shared q y (record_is r id me here k c q y there) bare).inside;
    },
  ),
)

pub leaves_are_known : OfEachSeat LeavesAreKnown
leaves_are_known z at heap slots id me y has_y s r homes here small = (
  me.0,
  keeps,
  tt,
  by_nothing r id me here at.clock me.0.reads (own_read r id me here),
  (refl, ap (λ (u : IndexState). u.index.leaves) (sym (index_is r id me here y has_y)) ∙ r.stored.leaves),
)

-- ---- a prune

module _ {z : Config} {at : Layout} {heap : Global} {s : S} (r : IsStoreRule z at heap s) (id : ℕ) (me : M)
    (here : get_elem? s.views id ≡ some me.0)
    (news : List (ℕ × CellState)) (changes : AreChanges z me.0 news) where
  -- what each key has then
  abbrev rows_then : Key → StampedVersions
  rows_then = versions_of (store_of heap (r.known.index 0).index (segment_of (revised r.known.cell news)))

  in_place_all : AreInPlace (r.known.index 0).index.leaves r.known.cell news
  in_place_all = all_in_place z me.0 (r.known.index 0).index.leaves r.known.cell
      (cells_agree r id me here) r.stored.leaves news changes

  changed_now : ChangesInPlace heap (r.known.index 0).index r.known.cell news
  changed_now = cells_change_in_place heap
      (r.known.index 0).index r.known.cell r.stored.indexed news in_place_all

  -- the row of a key that a changed cell covers has changed as its cell has, and each other is as it was
  by_cells : (R : StampedVersions → StampedVersions → Type 0)
      → ((k : ℕ) (c d : CellState) (q : Key) → HasCell me.0 k c → kept_at news k ≡ Some d
      → covers c.segment q ≡ true → R (versions_at c.segment q) (versions_at d.segment q))
      → (q : Key) → R (rows_now heap r.known q) (rows_then q)
      ⊎ ((rows_then q ≡ rows_now heap r.known q) × NoneCovers r.known.cell news q)
  by_cells R rows q = rows_changed heap (r.known.index 0).index r.known.cell r.stored.indexed news in_place_all
      (λ _ a b. R a b)
      (λ k d p e.
      let h = (each_kept (IsChange z me.0) news changes k d e).held in
      let is = cell_is r id me here k h.cell h.has in
      let i = h.inside in
      let l = r.stored.leaves in (
        omega (arith, i, l),
        λ covered. subst (λ (c : CellState). R (versions_at c.segment p) (versions_at d.segment p)) (sym is)
            (rows k h.cell d p h.has e (ap (λ (c : CellState). covers c.segment p) (sym is) ∙ covered)),
      )) q

  -- the store is no heavier
  still_weighed : GrowsBy me.0 news 0
      → weight (store_of heap (r.known.index 0).index (segment_of (revised r.known.cell news)))
      ≤ inserted_by_all z r.known.pass
  still_weighed grows =
      let old = r.stored.weighed in
      let new = changed_now.weight_is in
      let g = grows r.known.cell (cells_agree r id me here) in
      omega (arith, old, new, g)

pub rows_are_pruned_as_seen : OfEachSeat RowsArePrunedAsSeen
rows_are_pruned_as_seen z at heap slots id me p st x sweep news can s r homes here small =
    let k = r.known in
    let old = r.stored in
    let x_is = pin_is r id me here p x can.pin in
    let words = words_of z at s.words in
    let bound = horizon_of sweep in
    let stamps = stamp_in st.seen in
    let now = rows_then r id me here news can.changes in
    let Told : Key → Type 0 = (λ q. (now q ≡ rows_now heap k q)
    ⊎ ((now q ≡ prune_stamped stamps bound (rows_now heap k q))
    × AreTold stamps (stamp_in (k.journal 0).commits) bound (rows_now heap k q))) in
    let rows_are : (q : Key) → Told q = (λ q.
    elim (by_cells r id me here news can.changes (λ a b. b ≡ prune_stamped stamps bound a) can.rows q) as
    (λ _. Told q) [
      | inl e ↦ inr (
        e,
        told_all stamps (stamp_in (k.journal 0).commits) bound
            (λ n. sym (seen_reached old.shared st.seen bound (seen_front r id me here p st can.has) can.seen n))
            (rows_now heap k q),
      )
      | inr e ↦ inl e.0
    ]) in
    let safe = horizon_safe words.pin (active_of k.pass) (start_of k.pass) (announced_of k.pin)
    (sweep_of k.pin) words.clock old.pinned p z.passes sweep
    (ap (λ (u : PinState). u.sweep) x_is ∙ can.sweeps) can.whole (λ o on. inside old.shared o on) in
    let low = safe.0 in
    let published = old.shared.published in
    let held : (o : ℕ) → may_commit (k.pass o).stage ≡ true → old.shared.horizon ≤ (k.pass o).start
    = (λ o on. (old.shared.store.transactions.each (name_of k.pass o) (now_of (k.pass o))
    (runs old.shared o on)).pinned) in
    let shared : IsShared z words.pass k.pass (k.journal 0) now words.clock =
    dite (dec_le old.shared.horizon bound)
    (λ le. prunes old.shared stamps bound bound now le (omega arith)
    (omega (arith, low, published))
    (λ o on. safe.1 o (active_too (k.pass o).stage on)) rows_are)
    (λ up. prunes old.shared stamps bound old.shared.horizon now (omega arith)
    (omega (arith, up)) old.shared.store.transactions.behind held rows_are) in (
      with_cells me.0 news,
      keeps,
      tt,
      by_change r id me here news (all_held z me.0 news can.changes) [] [] (none_kept me.0.passes)
          (none_kept me.0.indexes)
          (record {
            readers = r.readers;
            active = refl;
            start = refl;
            shared = shared;
            indexed = (changed_now r id me here news can.changes).indexed;
            leaves = old.leaves;
            weighed = still_weighed r id me here news can.changes can.grows;
            noted = old.noted;
          }),
      (refl, tt),
    )
  where
    active_too : (g : Stage) → may_commit g ≡ true → is_active g ≡ true
    active_too Idle e = cc
    active_too Open e = refl
    active_too Aborting e = refl
    active_too Committing e = refl

-- ---- the sweeper gives the index back

pub sweeper_yields : OfEachSeat SweeperYields
sweeper_yields z at heap slots id me p x y has_x has_y s r homes here small =
    let k = r.known in
    let old = r.stored in
    let words = words_of z at s.words in (
      with_sweeper me.0 p x (record y { sweeper = None }),
      keeps,
      tt,
      by_sweeper r id me here p x has_x (λ u. u) at.clock (slice_index s.words at.clock) words.pin
          (loaded r id me here at.clock) y has_y None
          (record {
            pinned = subst (λ (u : (ℕ → _) × (ℕ → Option Sweep)). IsPinned words.pin (active_of k.pass)
                (start_of k.pass) u.0 u.1 words.clock)
                (λ i. (
                  sym (put_same (announced_of k.pin) p (k.pin p).announced refl) i,
                  sym (put_same (sweep_of k.pin) p (k.pin p).sweep refl) i,
                )) old.pinned;
            noted = subst (λ (u : (ℕ → List ℕ) × (ℕ → Option Sweep)).
                AreNoted (k.index 0).index (active_of k.pass) (start_of k.pass) u.0 u.1 None)
                (λ i. (
                  sym (put_same (noted_of k.pin) p (k.pin p).noted refl) i,
                  sym (put_same (sweep_of k.pin) p (k.pin p).sweep refl) i,
                )) (record { stands = old.noted.stands; found = λ q w none. cc });
            fast = λ l on among. old.fast p l on among;
          }),
      (refl, tt),
    )
