-- A write, its undo, the stamping of a commit's rows and a prune keep the rule.
use Rattle.std.proofs.Common.{◌≡◌, ◌⊎◌, inl, inr, ℕ, ◌+◌, ◌≤◌, List, [], ◌∷◌, refl, sym, ◌∙◌, ap, subst, arith}
use Rattle.std.specs.Prelude.{Bool, true, false, ◌||◌, slice_get, Some, None}
use Rattle.std.specs.List.{AllByRecursion, flat_map}
use Rattle.std.specs.declared.alloc.Global.{Global}
use Rattle.std.proofs.lemmas.Bool.{true≢false, false_from_ne_true}
use mathlib.Core.Logic.{dite}
use mathlib.Core.Option.{some}
use native.Mathlib.Decide.{dec_le}
use lib.ListN.{get_elem?}
use Rattle.atomic_table.specs.Table.{keeps}
use Rattle.epoch_reclaim.specs.Pinned.{horizon_of}
use Rattle.epoch_reclaim.proofs.PinLemmas.{horizon_safe}
use Rattle.graph_model.specs.declared.row.Key.{Key}
use Rattle.graph_model.specs.declared.write.Write.{Write}
use Rattle.graph_model.specs.Effects.{writes_at, touches_at}
use Rattle.graph_model.specs.History.{view}
use Rattle.graph_model.specs.Inserted.{inserted_by}
use Rattle.graph_model.specs.Refused.{refused}
use Rattle.graph_model.specs.Rows.{is_between}
use Rattle.graph_model.specs.Transactions.{stamp_in}
use Rattle.txn_manager.specs.declared.config.Config.{Config}
use Rattle.store_model.specs.Check.{MayWrite}
use Rattle.store_model.specs.Stamped.{AreTold, StampedVersions, forget_row, prune_stamped, stamp}
use Rattle.store_model.specs.Versions.{sees}
use Rattle.store_relation.specs.VersionSegment.Rows.{versions_at}
use Rattle.cells_model.specs.LeafStore.Leaves.{versions_of, weight}
use Rattle.seat_views.specs.Keeping.{kept_at, put, revised}
use Rattle.seat_views.proofs.NumberLemmas.{none_kept, one_kept}
use Rattle.store_relation.specs.declared.stage.Stage.{Stage}
use Rattle.store_relation.specs.declared.stage.Stage.TheVariants.{Idle, Open, Aborting, Committing}
use Rattle.store_relation.specs.Keys.{has_key}
use Rattle.store_relation.specs.Passes.{PassState, is_active, may_commit, name_at, name_of, now_of}
use Rattle.store_relation.specs.Rows.{AreLookedUp, row_after, row_before}
use Rattle.store_relation.specs.Shared.{IsLook, IsShared, inserted_by_all, inserted_by_pass}
use Rattle.store_relation.specs.Steps.{taken_back, with_unstamped, written_by}
use Rattle.store_relation.specs.Words.{stamps_of}
use Rattle.store_relation.proofs.CommitLemmas.{stamps_rows}
use Rattle.store_relation.proofs.KeyLemmas.{after_beside, before_beside}
use Rattle.store_relation.proofs.ListLemmas.{prefix_all}
use Rattle.store_relation.proofs.ReaderLemmas.{readers_put}
use Rattle.store_relation.proofs.RowStepLemmas.{prunes, undoes, writes}
use Rattle.store_relation.proofs.SharedLemmas.{inside, runs}
use Rattle.store_relation.proofs.WordLemmas.{looks_tell_row}
use Rattle.cells_model.specs.Cells.{CellState}
use Rattle.cells_model.specs.Indexed.{covers, store_of}
use Rattle.cells_model.specs.InPlace.{AreInPlace, ChangesInPlace, segment_of}
use Rattle.cells_model.proofs.GrowthLemmas.{growth_is_by_rows}
use Rattle.cells_model.proofs.InPlaceLemmas.{NoneCovers, cells_change_in_place, rows_changed}
use Rattle.rule_model.specs.NoteSteps.{HasRow}
use Rattle.rule_model.specs.Places.{Layout}
use Rattle.rule_model.specs.Sight.{PinState, Sight, HasCell, with_cells, with_rows}
use Rattle.rule_model.specs.Rule.{IsStoreRule, active_of, announced_of, rows_now, start_of, sweep_of, words_of}
use Rattle.rule_model.specs.Steps.{OfEachSeat}
use Rattle.rule_model.specs.RowSteps.{AreChanges, GrowsBy, HoldsKeys, IsChange, RowsArePruned, RowsAreStamped, WriteGrowsByRows, WriteIsMade, WriteIsUndone, looks_in}
use Rattle.rule_model.proofs.CountLemmas.{count_adds, count_grows, write_counts}
use Rattle.rule_model.proofs.LookLemmas.{looked_seen}
use Rattle.rule_model.proofs.FrameLemmas.{S, M, cell_is, cells_agree, part_same, pass_is, pin_is}
use Rattle.rule_model.proofs.NoteStepLemmas.{row_is}
use Rattle.rule_model.proofs.PassFrame.{none_out_of}
use Rattle.rule_model.proofs.RowFrame.{all_held, all_in_place, by_change, each_kept}

pub write_grows_by_rows : OfEachSeat WriteGrowsByRows
write_grows_by_rows z at heap slots id me news marks most rows few cell agrees =
    let g = growth_is_by_rows cell news marks (rows cell agrees) in
    omega (arith, g, few)

module _ {z : Config} {at : Layout} {heap : Global} {s : S} (r : IsStoreRule z at heap s) (id : ℕ) (me : M)
    (here : get_elem? s.views id ≡ some me.0)
    (news : List (ℕ × CellState)) (changes : AreChanges z me.0 news) where
  -- what each key has then
  abbrev rows_then : Key → StampedVersions
  rows_then = versions_of (store_of heap (r.known.index 0).index (segment_of (revised r.known.cell news)))

  in_place_all : AreInPlace (r.known.index 0).index.leaves r.known.cell news
  in_place_all = all_in_place z me.0 (r.known.index 0).index.leaves r.known.cell
      (cells_agree r id me here) r.stored.leaves news changes

  changed_now : ChangesInPlace heap (r.known.index 0).index r.known.cell news
  changed_now = cells_change_in_place heap
      (r.known.index 0).index r.known.cell r.stored.indexed news in_place_all

  -- the row of a key that a changed cell covers has changed as its cell has, and each other is as it was
  by_cells : (R : Key → StampedVersions → StampedVersions → Type 0)
      → ((k : ℕ) (c d : CellState) (q : Key) → HasCell me.0 k c → kept_at news k ≡ Some d
      → covers c.segment q ≡ true → R q (versions_at c.segment q) (versions_at d.segment q))
      → (q : Key) → R q (rows_now heap r.known q) (rows_then q)
      ⊎ ((rows_then q ≡ rows_now heap r.known q) × NoneCovers r.known.cell news q)
  by_cells R rows q = rows_changed heap (r.known.index 0).index r.known.cell r.stored.indexed news in_place_all
      R
      (λ k d q e.
      let h = (each_kept (IsChange z me.0) news changes k d e).held in
      let is = cell_is r id me here k h.cell h.has in
      let i = h.inside in
      let l = r.stored.leaves in (
        omega (arith, i, l),
        λ covered. subst (λ (c : CellState). R q (versions_at c.segment q) (versions_at d.segment q)) (sym is)
            (rows k h.cell d q h.has e (ap (λ (c : CellState). covers c.segment q) (sym is) ∙ covered)),
      )) q

  -- a changed cell covers what the old one did
  still_covers : (k : ℕ) (d : CellState) (q : Key) → kept_at news k ≡ Some d
      → covers (r.known.cell k).segment q ≡ covers d.segment q
  still_covers k d q e =
      let h = each_kept (IsChange z me.0) news changes k d e in
      ap (λ (c : CellState). covers c.segment q) (cell_is r id me here k h.held.cell h.held.has)
      ∙ (λ i. is_between (sym h.low i) (sym h.high i) q)

  -- a write or its undo has changed all rows, since the news have all its keys
  all_rows : (w : Write) → HoldsKeys z w news → (F : Key → StampedVersions → StampedVersions)
      → ((q : Key) (vs : StampedVersions) → (writes_at z.kind w q || touches_at w q) ≡ false → F q vs ≡ vs)
      → ((k : ℕ) (c d : CellState) (q : Key) → HasCell me.0 k c → kept_at news k ≡ Some d
      → covers c.segment q ≡ true → versions_at d.segment q ≡ F q (versions_at c.segment q))
      → (q : Key) → rows_then q ≡ F q (rows_now heap r.known q)
  all_rows w held F beside rows q = elim (by_cells (λ q a b. b ≡ F q a) rows q) as
      (λ _. rows_then q ≡ F q (rows_now heap r.known q)) [
        | inl e ↦ e
        | inr e ↦ e.0 ∙ sym (beside q (rows_now heap r.known q) (false_from_ne_true _ (λ on.
            let h = held q on in
            true≢false (sym (still_covers h.0 h.1 q h.2 ∙ h.3) ∙ e.1 h.0 h.1 h.2))))
      ]

  -- no more weight than rows that came
  weighs : (k' : ℕ → PassState) (more : ℕ) → GrowsBy me.0 news more
      → inserted_by_all z r.known.pass + more ≤ inserted_by_all z k'
      → weight (store_of heap (r.known.index 0).index (segment_of (revised r.known.cell news)))
      ≤ inserted_by_all z k'
  weighs k' more grows count =
      let old = r.stored.weighed in
      let new = changed_now.weight_is in
      let g = grows r.known.cell (cells_agree r id me here) in
      omega (arith, old, new, g, count)

-- ---- a write

pub write_is_made : OfEachSeat WriteIsMade
write_is_made z at heap slots id me p st w news can s r homes here small =
    let k = r.known in
    let old = r.stored in
    let st_is = pass_is r id me here p st can.has in
    let was : (k.pass p).stage ≡ Open = ap (λ (u : PassState). u.stage) st_is ∙ can.stage in
    let on : is_active (k.pass p).stage ≡ true = ap is_active was in
    let st' : PassState = written_by st w in
    let name : name_at p st ≡ name_of k.pass p = ap (name_at p) (sym st_is) in
    let now = rows_then r id me here news can.changes in
    let rows_are = all_rows r id me here news can.changes w can.held
    (λ q vs. row_after z.kind (name_at p st) w q vs)
    (λ q vs away. after_beside z.kind (name_at p st) w q vs away) can.rows in
    let counts = write_counts z.kind (k.pass p) (written_by (k.pass p) w) w on on refl refl in
    let adds : inserted_by_all z k.pass + inserted_by z.kind w ≤ inserted_by_all z (put k.pass p st')
    = count_adds z k.pass p (inserted_by z.kind w) st' (inside old.shared p on)
    (subst (λ (u : PassState). inserted_by_pass z.kind
    (k.pass p) + inserted_by z.kind w ≤ inserted_by_pass z.kind (written_by u w)) st_is counts) in (
      with_rows me.0 p st' news,
      keeps,
      tt,
      by_change r id me here news (all_held z me.0 news can.changes) ((p, st') ∷ []) []
          (one_kept me.0.passes p st st' can.has) (none_kept me.0.indexes)
          (record {
            readers = readers_put k.pass (k.journal 0).commits
                (flat_map (λ (u : Sight). u.readers) s.views) r.readers p st' (k.journal 0).commits
                (prefix_all (k.journal 0).commits)
                (inl (ap (λ (u : PassState). u.readers_out) st_is ∙ can.alone))
                (ap (λ (u : PassState). u.readers_out) (sym st_is));
            active = sym (part_same (λ (u : PassState). is_active u.stage) k.pass p st'
                (ap (λ (u : PassState). is_active u.stage) (sym st_is)));
            start = sym (part_same (λ (u : PassState). u.start) k.pass p st'
                (ap (λ (u : PassState). u.start) (sym st_is)));
            shared = subst (λ (u : PassState). IsShared z (words_of z at s.words).pass
                (put k.pass p (written_by u w)) (k.journal 0) now (words_of z at s.words).clock) st_is
                (writes old.shared p w now was
                (subst (λ (u : PassState). refused (view z.kind u.seen u.start u.own) w ≡ None)
                (sym st_is) can.allowed) can.within
                (λ n met. subst (λ (u : PassState). sees (stamp_in u.seen) u.start (name_at p u) n ≡ true)
                (sym st_is)
                (looked_seen z.kind (sees (stamp_in st.seen) st.start (name_at p st)) w
                (λ q. forget_row (rows_now heap k q))
                (λ q looked. may q looked (writes_at z.kind w q || touches_at w q) refl) n met))
                (λ q. rows_are q ∙ ap (λ n. row_after z.kind n w q (rows_now heap k q)) name));
            indexed = (changed_now r id me here news can.changes).indexed;
            leaves = old.leaves;
            weighed = weighs r id me here news can.changes (put k.pass p st')
                (inserted_by z.kind w) can.grows adds;
            noted = old.noted;
          }),
      (refl, tt),
    )
  where
    -- in a row that the write leaves alone there is nobody to meet
    may : (q : Key) → looks_in w q ≡ true → (t : Bool) → (writes_at z.kind w q || touches_at w q) ≡ t
        → MayWrite z.kind (sees (stamp_in st.seen) st.start (name_at p st)) w q
        (forget_row (rows_now heap r.known q))
    may q looked true e =
        let f = can.held q e in
        let h = (each_kept (IsChange z me.0) news can.changes f.0 f.1 f.2).held in
        let is = cell_is r id me here f.0 h.cell h.has in
        let row : HasRow z me.0 f.0 h.cell q = record {
          cell = h.has;
          inside = h.inside;
          covered = ap (λ (c : CellState). covers c.segment q) (sym is)
              ∙ still_covers r id me here news can.changes f.0 f.1 q f.2 ∙ f.3;
        } in
        subst (λ vs. MayWrite z.kind (sees (stamp_in st.seen) st.start (name_at p st)) w q (forget_row vs))
        (row_is r id me here f.0 h.cell q row) (can.may f.0 h.cell q row looked)
    may q looked false e =
        let o = neither (writes_at z.kind w q) (touches_at w q) e in
        record {
          free = λ on. absurd (true≢false (sym on ∙ o.0));
          ends = λ on. absurd (true≢false (sym on ∙ o.1));
          touches =
              λ on _. absurd (true≢false (sym on ∙ o.0));
        }
      where
        neither : (a b : Bool) → (a || b) ≡ false → (a ≡ false) × (b ≡ false)
        neither true b f = cc
        neither false b f = (refl, f)

-- ---- its undo

pub write_is_undone : OfEachSeat WriteIsUndone
write_is_undone z at heap slots id me p st front w news can s r homes here small =
    let k = r.known in
    let old = r.stored in
    let st_is = pass_is r id me here p st can.has in
    let was : (k.pass p).stage ≡ Aborting = ap (λ (u : PassState). u.stage) st_is ∙ can.stage in
    let st' : PassState = taken_back st front in
    let name : name_at p st ≡ name_of k.pass p = ap (name_at p) (sym st_is) in
    let now = rows_then r id me here news can.changes in
    let rows_are = all_rows r id me here news can.changes w can.held
    (λ q vs. row_before z.kind (name_at p st) w q vs)
    (λ q vs away. before_beside z.kind (name_at p st) w q vs away) can.rows in
    let same_count : inserted_by_all z k.pass ≤ inserted_by_all z (put k.pass p st')
    = count_grows z k.pass p st' (subst (λ (u : PassState).
    inserted_by_pass z.kind (k.pass p) ≤ inserted_by_pass z.kind (taken_back u front)) st_is (omega arith))
    in (
      with_rows me.0 p st' news,
      keeps,
      tt,
      by_change r id me here news (all_held z me.0 news can.changes) ((p, st') ∷ []) []
          (one_kept me.0.passes p st st' can.has) (none_kept me.0.indexes)
          (record {
            readers = readers_put k.pass (k.journal 0).commits
                (flat_map (λ (u : Sight). u.readers) s.views) r.readers p st' (k.journal 0).commits
                (prefix_all (k.journal 0).commits)
                (inl (none_out_of r id me here p (λ e. not_open (sym was ∙ e))))
                (ap (λ (u : PassState). u.readers_out) (sym st_is));
            active = sym (part_same (λ (u : PassState). is_active u.stage) k.pass p st'
                (ap (λ (u : PassState). is_active u.stage) (sym st_is)));
            start = sym (part_same (λ (u : PassState). u.start) k.pass p st'
                (ap (λ (u : PassState). u.start) (sym st_is)));
            shared = subst (λ (u : PassState). IsShared z (words_of z at s.words).pass
                (put k.pass p (taken_back u front)) (k.journal 0) now (words_of z at s.words).clock) st_is
                (undoes old.shared p front w now was (ap (λ (u : PassState). u.laid) st_is ∙ can.laid)
                (λ q. rows_are q ∙ ap (λ n. row_before z.kind n w q (rows_now heap k q)) name));
            indexed = (changed_now r id me here news can.changes).indexed;
            leaves = old.leaves;
            weighed = weighs r id me here news can.changes (put k.pass p st') 0 can.grows
                (omega (arith, same_count));
            noted = old.noted;
          }),
      (refl, tt),
    )
  where
    not_open : Aborting ≡ Open → ⊥
    not_open e = cc

-- ---- the rows of a commit

pub rows_are_stamped : OfEachSeat RowsAreStamped
rows_are_stamped z at heap slots id me p st unstamped i c news can s r homes here small =
    let k = r.known in
    let old = r.stored in
    let st_is = pass_is r id me here p st can.has in
    let was : (k.pass p).stage ≡ Idle = ap (λ (u : PassState). u.stage) st_is ∙ can.stage in
    let st' : PassState = with_unstamped st unstamped in
    let name : name_at p st ≡ name_of k.pass p = ap (name_at p) (sym st_is) in
    let now = rows_then r id me here news can.changes in
    let R : Key → StampedVersions → StampedVersions → Type 0 = (λ q a b.
    (b ≡ stamp (name_at p st) c.stamp a) ⊎ ((b ≡ a)
    × (has_key st.unstamped q ≡ true → has_key unstamped q ≡ true))) in
    let rows_are : (q : Key) → R q (rows_now heap k q) (now q) = (λ q.
    elim (by_cells r id me here news can.changes R can.rows q) as (λ _. R q (rows_now heap k q) (now q)) [
      | inl e ↦ e
      | inr e ↦ inr (
        e.0,
        can.rest q (λ m d kept. sym (still_covers r id me here news can.changes m d q kept)
            ∙ e.1 m d kept),
      )
    ]) in
    let same_count : inserted_by_all z k.pass ≤ inserted_by_all z (put k.pass p st')
    = count_grows z k.pass p st' (subst (λ (u : PassState).
    inserted_by_pass z.kind (k.pass p) ≤ inserted_by_pass z.kind (with_unstamped u unstamped)) st_is
    (omega arith)) in (
      with_rows me.0 p st' news,
      keeps,
      tt,
      by_change r id me here news (all_held z me.0 news can.changes) ((p, st') ∷ []) []
          (one_kept me.0.passes p st st' can.has) (none_kept me.0.indexes)
          (record {
            readers = readers_put k.pass (k.journal 0).commits
                (flat_map (λ (u : Sight). u.readers) s.views) r.readers p st' (k.journal 0).commits
                (prefix_all (k.journal 0).commits)
                (inl (none_out_of r id me here p (λ e. not_open (sym was ∙ e))))
                (ap (λ (u : PassState). u.readers_out) (sym st_is));
            active = sym (part_same (λ (u : PassState). is_active u.stage) k.pass p st'
                (ap (λ (u : PassState). is_active u.stage) (sym st_is)));
            start = sym (part_same (λ (u : PassState). u.start) k.pass p st'
                (ap (λ (u : PassState). u.start) (sym st_is)));
            shared = subst (λ (u : PassState). IsShared z (words_of z at s.words).pass
                (put k.pass p (with_unstamped u unstamped)) (k.journal 0) now
                (words_of z at s.words).clock) st_is
                (stamps_rows old.shared p unstamped c i now was
                (ap (λ (u : PassState). slice_get u.seen i) st_is ∙ can.commit) (can.by ∙ name)
                (λ q. subst (λ (u : PassState). (now q ≡ stamp (name_at p u) c.stamp (rows_now heap k q))
                ⊎ ((now q ≡ rows_now heap k q) × (has_key u.unstamped q ≡ true
                → has_key unstamped q ≡ true))) (sym st_is) (rows_are q)));
            indexed = (changed_now r id me here news can.changes).indexed;
            leaves = old.leaves;
            weighed = weighs r id me here news can.changes (put k.pass p st') 0 can.grows
                (omega (arith, same_count));
            noted = old.noted;
          }),
      (refl, tt),
    )
  where
    not_open : Idle ≡ Open → ⊥
    not_open e = cc

-- ---- a prune

may_commit_active : (g : Stage) → may_commit g ≡ true → is_active g ≡ true
may_commit_active Idle e = cc
may_commit_active Open e = refl
may_commit_active Aborting e = refl
may_commit_active Committing e = refl

pub rows_are_pruned : OfEachSeat RowsArePruned
rows_are_pruned z at heap slots id me p st x sweep news can s r homes here small =
    let k = r.known in
    let old = r.stored in
    let st_is = pass_is r id me here p st can.has in
    let x_is = pin_is r id me here p x can.pin in
    let words = words_of z at s.words in
    let bound = horizon_of sweep in
    let now = rows_then r id me here news can.changes in
    let looks : AllByRecursion (IsLook (k.journal 0)) st.looks =
    subst (λ (u : PassState). AllByRecursion (IsLook (k.journal 0)) u.looks) st_is
    (old.shared.each p).looks in
    let Told : Key → Type 0 = (λ q. (now q ≡ rows_now heap k q)
    ⊎ ((now q ≡ prune_stamped (stamps_of st.looks) bound (rows_now heap k q))
    × AreTold (stamps_of st.looks) (stamp_in (k.journal 0).commits) bound (rows_now heap k q))) in
    let rows_are : (q : Key) → Told q = (λ q.
    elim (by_cells r id me here news can.changes (λ q a b. (b ≡ prune_stamped (stamps_of st.looks) bound a)
    × AreLookedUp bound st.looks a) can.rows q) as (λ _. Told q) [
      | inl e ↦ inr (e.0, looks_tell_row (k.journal 0) st.looks looks bound (rows_now heap k q) e.1)
      | inr e ↦ inl e.0
    ]) in
    let safe = horizon_safe words.pin (active_of k.pass) (start_of k.pass) (announced_of k.pin)
    (sweep_of k.pin) words.clock old.pinned p z.passes sweep
    (ap (λ (u : PinState). u.sweep) x_is ∙ can.sweeps) can.whole (λ o on. inside old.shared o on) in
    let low = safe.0 in
    let published = old.shared.published in
    let held : (o : ℕ) → may_commit (k.pass o).stage ≡ true → old.shared.horizon ≤ (k.pass o).start
    = (λ o on. (old.shared.store.transactions.each (name_of k.pass o) (now_of (k.pass o))
    (runs old.shared o on)).pinned) in
    let shared : IsShared z words.pass k.pass (k.journal 0) now words.clock =
    dite (dec_le old.shared.horizon bound)
    (λ le. prunes old.shared (stamps_of st.looks) bound bound now le (omega arith)
    (omega (arith, low, published))
    (λ o on. safe.1 o (may_commit_active (k.pass o).stage on)) rows_are)
    (λ up. prunes old.shared (stamps_of st.looks) bound old.shared.horizon now (omega arith)
    (omega (arith, up)) old.shared.store.transactions.behind held rows_are) in (
      with_cells me.0 news,
      keeps,
      tt,
      by_change r id me here news (all_held z me.0 news can.changes) [] [] (none_kept me.0.passes)
          (none_kept me.0.indexes)
          (record {
            readers = r.readers;
            active = refl;
            start = refl;
            shared = shared;
            indexed = (changed_now r id me here news can.changes).indexed;
            leaves = old.leaves;
            weighed = weighs r id me here news can.changes k.pass 0 can.grows (omega arith);
            noted = old.noted;
          }),
      (refl, tt),
    )
