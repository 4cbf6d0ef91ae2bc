-- A step after which a pass's pin, its notes or its sweep are others, with who sweeps under the index or
-- without it.
use Rattle.std.proofs.Common.{◌≡◌, ℕ, ◌≤◌, List, [], ◌∷◌, set, refl, sym, ◌∙◌, ap, subst}
use Rattle.std.specs.Prelude.{Bool, true, false, Option}
use Rattle.std.specs.declared.alloc.Global.{Global}
use mathlib.Core.Logic.{dite}
use mathlib.Core.Option.{some}
use native.Mathlib.Decide.{ℕ_discrete}
use lib.ListN.{get_elem?}
use Rattle.atomic_table.specs.Table.{keeps, stepped}
use Rattle.txn_manager.specs.declared.config.Config.{Config}
use Rattle.leaf_index.specs.Index.{Index}
use Rattle.cells_model.specs.LeafStore.Leaves.{versions_of, weight}
use Rattle.seat_views.specs.Keeping.{put, revised}
use Rattle.seat_views.proofs.NumberLemmas.{none_kept, one_kept, put_here, put_else}
use Rattle.epoch_reclaim.specs.declared.sweep.Sweep.{Sweep}
use Rattle.epoch_reclaim.specs.Pinned.{IsPinned}
use Rattle.store_relation.specs.Shared.{IsShared, inserted_by_all}
use Rattle.cells_model.specs.Indexed.{store_of, IsIndexed}
use Rattle.cells_model.specs.InPlace.{segment_of}
use Rattle.cells_model.specs.Noted.{IsAmong, AreNoted}
use Rattle.rule_model.specs.Places.{Layout}
use Rattle.rule_model.specs.PinSteps.{with_sweeper}
use Rattle.rule_model.specs.Sight.{PinState, IndexState, News, HasPin, HasIndex, after, no_news, with_pin}
use Rattle.rule_model.specs.Rule.{IsStored, IsStoreRule, active_of, announced_of, noted_of, start_of, sweep_of, words_of}
use Rattle.rule_model.proofs.FrameLemmas.{S, M, index_is, is_sound, own_read, part_put, pin_is, steps_to}

module _ {z : Config} {at : Layout} {heap : Global} {s : S} (r : IsStoreRule z at heap s) (id : ℕ) (me : M)
    (here : get_elem? s.views id ≡ some me.0) (p : ℕ) where
  -- what such a step has to show: the pins then, what the pass has then, and who sweeps then
  pub record PinMoves (pin' : ℕ → ℕ) (x' : PinState) (sweeper' : Option ℕ) : Type 0 where
    pub pinned : IsPinned pin' (active_of r.known.pass) (start_of r.known.pass)
        (put (announced_of r.known.pin) p x'.announced) (put (sweep_of r.known.pin) p x'.sweep)
        (words_of z at s.words).clock
    pub noted : AreNoted (r.known.index 0).index (active_of r.known.pass) (start_of r.known.pass)
        (put (noted_of r.known.pin) p x'.noted) (put (sweep_of r.known.pin) p x'.sweep) sweeper'
    pub fast : (l : ℕ) → active_of r.known.pass p ≡ true → IsAmong l x'.noted → x'.announced ≡ false

  -- the pins and the index aside, all is as it was
  pins_stored : (pin' : ℕ → ℕ) (x' : PinState) (ys : List (ℕ × IndexState))
      → (revised r.known.index ys 0).index ≡ (r.known.index 0).index
      → PinMoves pin' x' (revised r.known.index ys 0).sweeper
      → IsStored z heap (record (words_of z at s.words) { pin = pin' })
      (after r.known (record no_news { pins = (p, x') ∷ []; indexes = ys }))
  pins_stored pin' x' ys same m =
      let old = r.stored in
      let k = r.known in
      let announced : ◌≡◌ {A = ℕ → Bool} (put (announced_of k.pin) p x'.announced)
      (announced_of (put k.pin p x')) = sym (part_put (λ (u : PinState). u.announced) k.pin p x') in
      let sweeps : ◌≡◌ {A = ℕ → Option Sweep} (put (sweep_of k.pin) p x'.sweep) (sweep_of (put k.pin p x')) =
      sym (part_put (λ (u : PinState). u.sweep) k.pin p x') in
      let notes : ◌≡◌ {A = ℕ → List ℕ} (put (noted_of k.pin) p x'.noted) (noted_of (put k.pin p x')) =
      sym (part_put (λ (u : PinState). u.noted) k.pin p x') in
      let words = words_of z at s.words in
      let index' = (revised k.index ys 0).index in
      record {
        shared = subst (λ (i : Index). IsShared z words.pass k.pass (k.journal 0)
            (versions_of (store_of heap i (segment_of k.cell))) words.clock) (sym same) old.shared;
        indexed = subst (λ (i : Index). IsIndexed heap i (segment_of k.cell)) (sym same) old.indexed;
        leaves = ap (λ (i : Index). i.leaves) same ∙ old.leaves;
        weighed = subst (λ (i : Index). weight (store_of heap i (segment_of k.cell)) ≤ inserted_by_all z k.pass)
            (sym same) old.weighed;
        blocks = old.blocks;
        pinned = subst (λ (u : (ℕ → Bool) × (ℕ → Option Sweep)).
            IsPinned pin' (active_of k.pass) (start_of k.pass) u.0 u.1 words.clock)
            (λ i. (announced i, sweeps i)) m.pinned;
        noted = subst (λ (u : Index × (ℕ → List ℕ) × (ℕ → Option Sweep)).
            AreNoted u.0 (active_of k.pass) (start_of k.pass) u.1 u.2 (revised k.index ys 0).sweeper)
            (λ i. (sym same i, notes i, sweeps i)) m.noted;
        fast = λ o l on. dite (ℕ_discrete o p)
            (λ equal among.
            let now : put k.pin p x' o ≡ x' = ap (put k.pin p x') equal ∙ put_here k.pin p x' in
            ap (λ (u : PinState). u.announced) now
            ∙ m.fast l (ap (active_of k.pass) (sym equal)
            ∙ on) (subst (λ (u : PinState). IsAmong l u.noted) now among))
            (λ other among.
            let was = put_else k.pin p x' o other in
            ap (λ (u : PinState). u.announced) was
            ∙ old.fast o l on (subst (λ (u : PinState). IsAmong l u.noted) was among));
      }

  module _ (x : PinState) (has : HasPin me.0 p x) (F : PinState → PinState) (i n : ℕ) (pin' : ℕ → ℕ)
      (is : words_of z at (set s.words i n) ≡ record (words_of z at s.words) { pin = pin' }) where
    -- the pass's pin alone
    pub by_pin : PinMoves pin' (F (r.known.pin p)) (r.known.index 0).sweeper
        → IsStoreRule z at heap (stepped s i n id me.1 (with_pin me.0 p (F x)) keeps)
    by_pin m =
        let news : PinState → News = (λ u. record no_news { pins = (p, F u) ∷ [] }) in
        subst (λ (u : PinState). IsStoreRule z at heap (stepped s i n id me.1 (with_pin me.0 p (F u)) keeps))
        (pin_is r id me here p x has)
        (steps_to r id me here i n (record (words_of z at s.words) { pin = pin' })
        (news (r.known.pin p)) me.0.reads is
        (record {
          passes = none_kept me.0.passes;
          pins = one_kept me.0.pins p x (F (r.known.pin p)) has;
          cells = none_kept me.0.cells;
          indexes = none_kept me.0.indexes;
          journals =
              none_kept me.0.journals;
        })
        (is_sound r id me here (news (r.known.pin p)) me.0.reads.reading refl refl refl (own_read r id me here))
        (pins_stored pin' (F (r.known.pin p)) [] refl m))

    -- with who sweeps under the index
    pub by_sweeper : (y : IndexState) → HasIndex me.0 y → (sweeper' : Option ℕ)
        → PinMoves pin' (F (r.known.pin p)) sweeper'
        → IsStoreRule z at heap (stepped s i n id me.1
        (with_sweeper me.0 p (F x) (record y { sweeper = sweeper' })) keeps)
    by_sweeper y has_y sweeper' m =
        let y' : IndexState → IndexState = (λ u. record u { sweeper = sweeper' }) in
        let ys : List (ℕ × IndexState) = (0, y' (r.known.index 0)) ∷ [] in
        let news : News = record no_news { pins = (p, F (r.known.pin p)) ∷ []; indexes = ys } in
        subst (λ (u : PinState × IndexState).
        IsStoreRule z at heap (stepped s i n id me.1 (with_sweeper me.0 p (F u.0) (y' u.1)) keeps))
        (λ t. (pin_is r id me here p x has t, index_is r id me here y has_y t))
        (steps_to r id me here i n (record (words_of z at s.words) { pin = pin' }) news me.0.reads is
        (record {
          passes = none_kept me.0.passes;
          pins = one_kept me.0.pins p x (F (r.known.pin p)) has;
          cells = none_kept me.0.cells;
          indexes = one_kept me.0.indexes 0 y (y' (r.known.index 0)) has_y;
          journals = none_kept me.0.journals;
        })
        (is_sound r id me here news me.0.reads.reading refl refl refl (own_read r id me here))
        (pins_stored pin' (F (r.known.pin p)) ys refl m))
