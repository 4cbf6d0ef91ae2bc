-- Spreads, splits and merges are moves, and a move keeps the rule.
use Rattle.std.proofs.Common.{◌≡◌, ◌⊎◌, inl, inr, ℕ, zero, suc, ◌≤◌, List, [], ◌∷◌, ◌++◌, refl, sym, ◌∙◌, ap, subst, arith}
use Rattle.std.specs.Prelude.{Bool, true, false, ◌==◌, ◌||◌, slice_index}
use Rattle.std.specs.List.{list_any}
use Rattle.atomic_table.specs.Table.{keeps}
use Rattle.graph_model.specs.declared.row.Key.{Key}
use Rattle.store_model.specs.Stamped.{StampedVersions}
use Rattle.cells_model.specs.LeafArray.Segments.{lows_of}
use Rattle.leaf_index.specs.declared.route.Retired.{Retired}
use Rattle.leaf_index.specs.Index.{Index, Entry}
use Rattle.cells_model.specs.LeafStore.Leaves.{Leaves, versions_of, weight}
use Rattle.cells_model.specs.LeafStore.Changes.{MovesRows}
use Rattle.cells_model.specs.LeafStore.Merging.{KeepsVersions}
use Rattle.seat_views.specs.Keeping.{revised}
use Rattle.seat_views.proofs.NumberLemmas.{eq_of, none_kept, one_kept}
use Rattle.store_relation.specs.Shared.{IsShared, inserted_by_all}
use Rattle.store_relation.proofs.EndLemmas.{clock_bound}
use Rattle.store_relation.proofs.ListLemmas.{prefix_length}
use Rattle.cells_model.specs.Indexed.{is_live, leaf_cells, store_of, IsIndexed}
use Rattle.cells_model.specs.InPlace.{segment_of}
use Rattle.cells_model.specs.Noted.{IsAmong, AreNoted}
use Rattle.cells_model.proofs.MovedLemmas.{merges_cells, splits_cells, spreads_cells}
use Rattle.cells_model.proofs.NoteLemmas.{retires_leaves}
use Rattle.rule_model.specs.Sight.{IndexState, no_news, with_news}
use Rattle.rule_model.specs.Rule.{active_of, noted_of, rows_now, start_of, sweep_of, words_of}
use Rattle.rule_model.specs.Steps.{OfEachSeat}
use Rattle.rule_model.specs.MoveSteps.{MergeIsMove, RowsAreMoved, SplitIsMove, SpreadIsMove}
use Rattle.rule_model.proofs.FrameLemmas.{cells_agree, index_is}
use Rattle.rule_model.proofs.RowFrame.{by_change}

-- rows that have moved keep their versions
keeps_versions : (old new : Leaves) → MovesRows old new → KeepsVersions old new
keeps_versions old new m = record { versions = m.versions; limit = m.limit; weight = m.weight }

-- ---- leaves with an entry

or_left : (a b : Bool) → a ≡ true → (a || b) ≡ true
or_left true b e = refl
or_left false b e = cc

or_right : (a b : Bool) → b ≡ true → (a || b) ≡ true
or_right true b e = refl
or_right false b e = e

-- where an entry has become another one of the same leaf, and others may have come after it
live_still : (l : ℕ) (front : List Entry) (e e' : Entry) (more back : List Entry) → e'.leaf ≡ e.leaf
    → list_any (λ (x : Entry). x.leaf == l) (front ++ e ∷ back) ≡ true
    → list_any (λ (x : Entry). x.leaf == l) (front ++ e' ∷ (more ++ back)) ≡ true
live_still l [] e e' more back same on = by_test (e.leaf == l) refl on
  where
    later : (xs : List Entry) → list_any (λ (x : Entry). x.leaf == l) back ≡ true
        → list_any (λ (x : Entry). x.leaf == l) (xs ++ back) ≡ true
    later [] h = h
    later (x ∷ xs) h = or_right (x.leaf == l) _ (later xs h)

    by_test : (b : Bool) → (e.leaf == l) ≡ b → (b || list_any (λ (x : Entry). x.leaf == l) back) ≡ true
        → ((e'.leaf == l) || list_any (λ (x : Entry). x.leaf == l) (more ++ back)) ≡ true
    by_test true is h = or_left (e'.leaf == l) _ (ap (λ n. n == l) same ∙ is)
    by_test false is h = or_right (e'.leaf == l) _ (later more h)
live_still l (x ∷ front) e e' more back same on =
    by_test (x.leaf == l) on (live_still l front e e' more back same)
  where
    by_test : (b : Bool) → (b || list_any (λ (y : Entry). y.leaf == l) (front ++ e ∷ back)) ≡ true
        → (list_any (λ (y : Entry). y.leaf == l) (front ++ e ∷ back) ≡ true
        → list_any (λ (y : Entry). y.leaf == l) (front ++ e' ∷ (more ++ back)) ≡ true)
        → (b || list_any (λ (y : Entry). y.leaf == l) (front ++ e' ∷ (more ++ back))) ≡ true
    by_test true h ih = refl
    by_test false h ih = ih h

-- where the second of two has gone, it is that one or has an entry still
live_but_one : (l : ℕ) (front : List Entry) (e e' f : Entry) (back : List Entry) → e'.leaf ≡ e.leaf
    → list_any (λ (x : Entry). x.leaf == l) (front ++ e ∷ f ∷ back) ≡ true
    → (list_any (λ (x : Entry). x.leaf == l) (front ++ e' ∷ back) ≡ true) ⊎ (f.leaf ≡ l)
live_but_one l [] e e' f back same on = by_tests (e.leaf == l) refl (f.leaf == l) refl on
  where
    by_tests : (a : Bool) → (e.leaf == l) ≡ a → (b : Bool) → (f.leaf == l) ≡ b
        → (a || (b || list_any (λ (x : Entry). x.leaf == l) back)) ≡ true
        → (((e'.leaf == l) || list_any (λ (x : Entry). x.leaf == l) back) ≡ true) ⊎ (f.leaf ≡ l)
    by_tests true is b at h = inl (or_left (e'.leaf == l) _ (ap (λ n. n == l) same ∙ is))
    by_tests false is true at h = inr (eq_of f.leaf l at)
    by_tests false is false at h = inl (or_right (e'.leaf == l) _ h)
live_but_one l (x ∷ front) e e' f back same on =
    by_test (x.leaf == l) on (live_but_one l front e e' f back same)
  where
    by_test : (b : Bool) → (b || list_any (λ (y : Entry). y.leaf == l) (front ++ e ∷ f ∷ back)) ≡ true
        → (list_any (λ (y : Entry). y.leaf == l) (front ++ e ∷ f ∷ back) ≡ true
        → (list_any (λ (y : Entry). y.leaf == l) (front ++ e' ∷ back) ≡ true) ⊎ (f.leaf ≡ l))
        → ((b || list_any (λ (y : Entry). y.leaf == l) (front ++ e' ∷ back)) ≡ true) ⊎ (f.leaf ≡ l)
    by_test true h ih = inl refl
    by_test false h ih = ih h

-- one more at the end
among_front : {X : Type 0} (x : X) (xs ys : List X) → IsAmong x xs → IsAmong x (xs ++ ys)
among_front x [] ys (i, e) = cc
among_front x (y ∷ xs) ys (zero, e) = (0, e)
among_front x (y ∷ xs) ys (suc i, e) = let t = among_front x xs ys (i, e) in (suc t.0, t.1)

among_last : {X : Type 0} (x : X) (xs : List X) → IsAmong x (xs ++ x ∷ [])
among_last x [] = (0, refl)
among_last x (y ∷ xs) = let t = among_last x xs in (suc t.0, t.1)

-- ---- the three moves

pub spread_is_move : SpreadIsMove
spread_is_move heap index stamp cell cell' front e back is entries small others respreads ready =
    let t = spreads_cells heap index cell cell' front e back is entries small others respreads ready in
    record {
      indexed = t.indexed;
      keeps = keeps_versions _ _ t.moves;
      live = λ l on. inl (live_still l front e
          (record e { cuts = lows_of (leaf_cells cell' e.leaf) }) [] back refl
          (sym (ap (list_any (λ (x : Entry). x.leaf == l)) entries) ∙ on));
      retired = λ r among. among;
    }

pub split_is_move : SplitIsMove
split_is_move heap index new stamp cell cell' key leaf segment other is routed below m many small ready =
    let t = splits_cells heap index new cell cell' key leaf segment other is routed below m many small ready in
    let right : Entry = record { low = m.key; leaf = other; cuts = lows_of (leaf_cells cell' other) } in
    record {
      indexed = t.moves.indexed;
      keeps = keeps_versions _ _ t.moves.moves;
      live = λ l on. inl (ap (λ (x : Index). is_live x l) m.now
          ∙ live_still l m.front m.entry (record m.entry { cuts = lows_of (leaf_cells cell' leaf) })
          (right ∷ []) m.back refl (sym (ap (list_any (λ (x : Entry). x.leaf == l)) m.is) ∙ on));
      retired = λ r among. subst (λ (x : Index). IsAmong r x.retired) (sym m.now) among;
    }

pub merge_is_move : MergeIsMove
merge_is_move heap index new stamp cell cell' is m below small_left small_right ready =
    let t = merges_cells heap index new cell cell' stamp is m below small_left small_right ready in
    let gone : Retired = record { leaf = m.right.leaf; stamp = stamp } in
    record {
      indexed = t.indexed;
      keeps = keeps_versions _ _ t.compacts.moves;
      live = λ l on. elim (live_but_one l m.front m.left
          (record m.left { cuts = lows_of (leaf_cells cell' m.left.leaf) }) m.right m.back refl
          (sym (ap (list_any (λ (x : Entry). x.leaf == l)) m.is) ∙ on))
          as (λ _. (is_live new l ≡ true) ⊎ ((r : Retired) × IsAmong r new.retired × (r.leaf ≡ l)
          × (r.stamp ≡ stamp))) [
            | inl still ↦ inl (ap (λ (x : Index). is_live x l) m.now ∙ still)
            | inr one ↦ inr (
              gone,
              subst (λ (x : Index). IsAmong gone x.retired) (sym m.now)
                  (among_last gone index.retired),
              one,
              refl,
            )
          ];
      retired = λ r among. subst (λ (x : Index). IsAmong r x.retired) (sym m.now)
          (among_front r index.retired (gone ∷ []) among);
    }

-- ---- the step

pub rows_are_moved : OfEachSeat RowsAreMoved
rows_are_moved z at heap slots id me y now news can s r homes here small =
    let k = r.known in
    let old = r.stored in
    let words = words_of z at s.words in
    let n : ℕ = slice_index s.words at.clock in
    let y_is = index_is r id me here y can.index in
    let done = can.moves n (clock_bound old.shared) k.cell (cells_agree r id me here)
    (subst (λ (u : IndexState). IsIndexed heap u.index (segment_of k.cell)) y_is old.indexed) in
    let same : ◌≡◌ {A = Key → StampedVersions} (rows_now heap k)
    (versions_of (store_of heap (now n) (segment_of (revised k.cell news))))
    = (λ i q. (ap (λ (u : IndexState). versions_of (store_of heap u.index (segment_of k.cell)) q) y_is
    ∙ sym (done.keeps.versions q)) i) in
    let weight_old : weight (store_of heap y.index (segment_of k.cell)) ≤ inserted_by_all z k.pass =
    subst (λ (u : IndexState). weight (store_of heap u.index (segment_of k.cell))
    ≤ inserted_by_all z k.pass) y_is old.weighed in
    let weight_new = done.keeps.weight in
    let published = old.shared.published in
    let began : (o : ℕ) → active_of k.pass o ≡ true → start_of k.pass o ≤ n = (λ o _.
    let h = old.shared.each o in
    let a = h.started in
    let b = prefix_length (k.pass o).seen (k.journal 0).commits h.seen in
    omega (arith, a, b, published)) in (
      with_news me.0 (record no_news {
        cells = news;
        indexes = (0, record y { index = now n }) ∷ [];
      }) me.0.reads,
      keeps,
      tt,
      by_change r id me here news can.held [] ((0, record y { index = now n }) ∷ []) (none_kept me.0.passes)
          (one_kept me.0.indexes 0 y (record y { index = now n }) can.index)
          (record {
            readers = r.readers;
            active = refl;
            start = refl;
            shared = subst (λ rows. IsShared z words.pass k.pass
                (k.journal 0) rows words.clock) same old.shared;
            indexed = done.indexed;
            leaves = done.keeps.limit ∙ ap (λ (u : IndexState). u.index.leaves) (sym y_is) ∙ old.leaves;
            weighed = omega (arith, weight_old, weight_new);
            noted = retires_leaves y.index (now n) (active_of k.pass) (start_of k.pass) (noted_of k.pin)
                (sweep_of k.pin) y.sweeper n
                (subst (λ (u : IndexState). AreNoted u.index (active_of k.pass) (start_of k.pass)
                (noted_of k.pin) (sweep_of k.pin) u.sweeper) y_is old.noted)
                began done.live done.retired;
          }),
      (refl, tt),
    )
