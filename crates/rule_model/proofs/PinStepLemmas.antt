-- Announce, pin, unpin and note; and the steps of sweeps keep the rule.
use Rattle.std.proofs.Common.{◌≡◌, ℕ, ◌≤◌, List, [], ◌∷◌, refl, sym, ◌∙◌, ap, subst, cond, arith}
use Rattle.std.specs.Prelude.{Bool, true, false, nat_lt, Option, Some, None, slice_index}
use Rattle.std.specs.declared.alloc.Global.{Global}
use Rattle.std.proofs.lemmas.Bool.{true≢false}
use Rattle.std.proofs.lemmas.Bool.Decides.{nat_tests}
use mathlib.Core.Logic.{dite}
use native.Mathlib.Decide.{ℕ_discrete}
use Rattle.atomic_table.specs.Table.{keeps}
use Rattle.txn_manager.specs.declared.config.Config.{Config}
use Rattle.graph_model.specs.declared.row.Key.{Key}
use Rattle.store_model.specs.Stamped.{StampedVersions}
use Rattle.leaf_index.specs.Index.{Index}
use Rattle.leaf_index.specs.Calls.{freed, kept_of}
use Rattle.cells_model.specs.LeafStore.Leaves.{versions_of, weight}
use Rattle.seat_views.specs.Keeping.{put}
use Rattle.seat_views.proofs.NumberLemmas.{none_kept, one_kept, put_here, put_else}
use Rattle.epoch_reclaim.specs.declared.sweep.Sweep.{Sweep}
use Rattle.epoch_reclaim.specs.Pinned.{IsPinned, announced_word, begun, looked_at, pinned_word, unpinned}
use Rattle.epoch_reclaim.proofs.PinLemmas.{announces, pins, sweep_begins, sweep_looks, unpins}
use Rattle.store_relation.specs.Passes.{PassState, is_active}
use Rattle.store_relation.specs.Shared.{IsShared, inserted_by_all}
use Rattle.store_relation.proofs.SharedLemmas.{inside}
use Rattle.cells_model.specs.Indexed.{is_live, IsIndexed, store_of}
use Rattle.cells_model.specs.InPlace.{segment_of}
use Rattle.cells_model.specs.Noted.{AreNoted}
use Rattle.cells_model.proofs.MovedLemmas.{frees_cells}
use Rattle.cells_model.proofs.NoteLemmas.{forgets_leaves, notes_leaf, other_sweep_begins, other_sweep_ends, sweep_looks_on, sweeper_begins, sweeper_ends, sweeper_frees}
use Rattle.rule_model.specs.Places.{Layout}
use Rattle.rule_model.specs.Sight.{PinState, IndexState, with_index, with_pin}
use Rattle.rule_model.specs.Rule.{IsStoreRule, active_of, announced_of, noted_of, rows_now, start_of, sweep_of, words_of}
use Rattle.rule_model.specs.Steps.{OfEachSeat}
use Rattle.rule_model.specs.PinSteps.{LeafIsNoted, LeavesAreFreed, OtherSweepBegins, OtherSweepEnds, PassAnnounces, PassPins, PassUnpins, SweepLooksOn, SweeperBegins, SweeperEnds, with_sweeper}
use Rattle.rule_model.proofs.FrameLemmas.{S, index_is, loaded, pass_is, pin_is, put_same}
use Rattle.rule_model.proofs.PinFrame.{by_pin, by_sweeper}
use Rattle.rule_model.proofs.PlaceLemmas.{pin_stored}
use Rattle.rule_model.proofs.RowFrame.{by_change}

-- ---- pins

pub pass_announces : OfEachSeat PassAnnounces
pass_announces z at heap slots id me p st x has has_x idle in_p s r homes here small =
    let k = r.known in
    let old = r.stored in
    let words = words_of z at s.words in
    let closed : active_of k.pass p ≡ false =
    ap (λ (u : PassState). is_active u.stage) (pass_is r id me here p st has) ∙ ap is_active idle in (
      with_pin me.0 p (record x { announced = true }),
      keeps,
      tt,
      by_pin r id me here p x has_x (λ u. record u { announced = true }) (at.pin p) announced_word
          (put words.pin p announced_word) (pin_stored at z.passes _ s.words r.apart p announced_word in_p)
          (record {
            pinned = subst (λ u. IsPinned (put words.pin p announced_word) (active_of k.pass) (start_of k.pass)
                (put (announced_of k.pin) p true) u words.clock)
                (sym (put_same (sweep_of k.pin) p (k.pin p).sweep refl))
                (announces words.pin (active_of k.pass) (start_of k.pass) (announced_of k.pin)
                (sweep_of k.pin) words.clock old.pinned p closed);
            noted = subst (λ (u : (ℕ → List ℕ) × (ℕ → Option Sweep)).
                AreNoted (k.index 0).index (active_of k.pass) (start_of k.pass) u.0 u.1 (k.index 0).sweeper)
                (λ i. (
                  sym (put_same (noted_of k.pin) p (k.pin p).noted refl) i,
                  sym (put_same (sweep_of k.pin) p (k.pin p).sweep refl) i,
                )) old.noted;
            fast = λ l on among. absurd (true≢false (sym on ∙ closed));
          }),
      refl,
    )

pub pass_pins : OfEachSeat PassPins
pass_pins z at heap slots id me p st x has has_x opened in_p s r homes here small =
    let k = r.known in
    let old = r.stored in
    let words = words_of z at s.words in
    let st_is = pass_is r id me here p st has in
    let word = pinned_word st.start in
    let on : active_of k.pass p ≡ true = ap (λ (u : PassState). is_active u.stage) st_is
    ∙ ap is_active opened in (
      with_pin me.0 p (record x { announced = false }),
      keeps,
      tt,
      by_pin r id me here p x has_x (λ u. record u { announced = false }) (at.pin p) word (put words.pin p word)
          (pin_stored at z.passes _ s.words r.apart p word in_p)
          (record {
            pinned = subst (λ (u : (ℕ → Option Sweep) × ℕ). IsPinned (put words.pin p (pinned_word u.1))
                (active_of k.pass) (start_of k.pass) (put (announced_of k.pin) p false) u.0 words.clock)
                (λ i. (sym (put_same (sweep_of k.pin) p (k.pin p).sweep refl) i, (st_is i).start))
                (pins words.pin (active_of k.pass) (start_of k.pass) (announced_of k.pin)
                (sweep_of k.pin) words.clock old.pinned p on);
            noted = subst (λ (u : (ℕ → List ℕ) × (ℕ → Option Sweep)).
                AreNoted (k.index 0).index (active_of k.pass) (start_of k.pass) u.0 u.1 (k.index 0).sweeper)
                (λ i. (
                  sym (put_same (noted_of k.pin) p (k.pin p).noted refl) i,
                  sym (put_same (sweep_of k.pin) p (k.pin p).sweep refl) i,
                )) old.noted;
            fast = λ l _ among. refl;
          }),
      refl,
    )

pub pass_unpins : OfEachSeat PassUnpins
pass_unpins z at heap slots id me p st x has has_x idle in_p s r homes here small =
    let k = r.known in
    let old = r.stored in
    let words = words_of z at s.words in
    let closed : active_of k.pass p ≡ false =
    ap (λ (u : PassState). is_active u.stage) (pass_is r id me here p st has) ∙ ap is_active idle in (
      with_pin me.0 p (record x { announced = false; noted = [] }),
      keeps,
      tt,
      by_pin r id me here p x has_x (λ u. record u { announced = false; noted = [] }) (at.pin p) unpinned
          (put words.pin p unpinned) (pin_stored at z.passes _ s.words r.apart p unpinned in_p)
          (record {
            pinned = subst (λ u. IsPinned (put words.pin p unpinned) (active_of k.pass) (start_of k.pass)
                (put (announced_of k.pin) p false) u words.clock)
                (sym (put_same (sweep_of k.pin) p (k.pin p).sweep refl))
                (unpins words.pin (active_of k.pass) (start_of k.pass) (announced_of k.pin)
                (sweep_of k.pin) words.clock old.pinned p closed);
            noted = subst (λ (u : ℕ → Option Sweep). AreNoted (k.index 0).index (active_of k.pass)
                (start_of k.pass) (put (noted_of k.pin) p []) u (k.index 0).sweeper)
                (sym (put_same (sweep_of k.pin) p (k.pin p).sweep refl))
                (forgets_leaves (k.index 0).index (active_of k.pass) (start_of k.pass) (noted_of k.pin)
                (sweep_of k.pin) (k.index 0).sweeper old.noted p);
            fast = λ l on among. absurd (true≢false (sym on ∙ closed));
          }),
      refl,
    )

pub leaf_is_noted : OfEachSeat LeafIsNoted
leaf_is_noted z at heap slots id me p l x y has_x has_y calm live pinned s r homes here small =
    let k = r.known in
    let old = r.stored in
    let words = words_of z at s.words in
    let x_is = pin_is r id me here p x has_x in
    let y_is = index_is r id me here y has_y in
    let nobody : (k.index 0).sweeper ≡ None = ap (λ (u : IndexState). u.sweeper) y_is ∙ calm in
    let not_announced : announced_of k.pin p ≡ false = ap (λ (u : PinState). u.announced) x_is ∙ pinned in
    let now = notes_leaf (k.index 0).index (active_of k.pass) (start_of k.pass) (noted_of k.pin)
    (sweep_of k.pin)
    (subst (AreNoted (k.index 0).index (active_of k.pass) (start_of k.pass) (noted_of k.pin)
    (sweep_of k.pin)) nobody old.noted)
    p l (ap (λ (u : IndexState). is_live u.index l) y_is ∙ live) in (
      with_pin me.0 p (record x { noted = l ∷ x.noted }),
      keeps,
      tt,
      by_pin r id me here p x has_x (λ u. record u { noted = l ∷ u.noted }) at.clock
          (slice_index s.words at.clock) words.pin (loaded r id me here at.clock)
          (record {
            pinned = subst (λ (u : (ℕ → Bool) × (ℕ → Option Sweep)). IsPinned words.pin (active_of k.pass)
                (start_of k.pass) u.0 u.1 words.clock)
                (λ i. (
                  sym (put_same (announced_of k.pin) p (k.pin p).announced refl) i,
                  sym (put_same (sweep_of k.pin) p (k.pin p).sweep refl) i,
                )) old.pinned;
            noted = subst (λ (u : (ℕ → Option Sweep) × Option ℕ). AreNoted (k.index 0).index (active_of k.pass)
                (start_of k.pass) (put (noted_of k.pin) p (l ∷ noted_of k.pin p)) u.0 u.1)
                (λ i. (sym (put_same (sweep_of k.pin) p (k.pin p).sweep refl) i, sym nobody i)) now;
            fast = λ m _ among. not_announced;
          }),
      (refl, tt),
    )

-- ---- sweeps

module _ {z : Config} {at : Layout} {heap : Global} {s : S} (r : IsStoreRule z at heap s) (p : ℕ) where
  -- pins after a pass's sweep has changed
  sweeps_pinned : (w : Option Sweep)
      → IsPinned (words_of z at s.words).pin (active_of r.known.pass) (start_of r.known.pass)
      (announced_of r.known.pin) (put (sweep_of r.known.pin) p w) (words_of z at s.words).clock
      → IsPinned (words_of z at s.words).pin (active_of r.known.pass) (start_of r.known.pass)
      (put (announced_of r.known.pin) p (r.known.pin p).announced) (put (sweep_of r.known.pin) p w)
      (words_of z at s.words).clock
  sweeps_pinned w is = subst (λ (u : ℕ → Bool). IsPinned (words_of z at s.words).pin (active_of r.known.pass)
      (start_of r.known.pass) u (put (sweep_of r.known.pin) p w) (words_of z at s.words).clock)
      (sym (put_same (announced_of r.known.pin) p (r.known.pin p).announced refl)) is

  -- and notes
  sweeps_noted : (w : Option Sweep) (sweeper : Option ℕ)
      → AreNoted (r.known.index 0).index (active_of r.known.pass) (start_of r.known.pass) (noted_of r.known.pin)
      (put (sweep_of r.known.pin) p w) sweeper
      → AreNoted (r.known.index 0).index (active_of r.known.pass) (start_of r.known.pass)
      (put (noted_of r.known.pin) p (r.known.pin p).noted) (put (sweep_of r.known.pin) p w) sweeper
  sweeps_noted w sweeper is = subst (λ (u : ℕ → List ℕ).
      AreNoted (r.known.index 0).index (active_of r.known.pass) (start_of r.known.pass) u
      (put (sweep_of r.known.pin) p w) sweeper)
      (sym (put_same (noted_of r.known.pin) p (r.known.pin p).noted refl)) is

  -- a sweep that is no more holds nothing
  sweep_gone : IsPinned (words_of z at s.words).pin (active_of r.known.pass) (start_of r.known.pass)
      (announced_of r.known.pin) (put (sweep_of r.known.pin) p None) (words_of z at s.words).clock
  sweep_gone =
      let is = r.stored.pinned in
      record {
        held = is.held;
        ready = is.ready;
        within = λ q w e. is.within q w (was q w e);
        swept = λ q w e. is.swept q w (was q w e);
      }
    where
      was : (q : ℕ) (w : Sweep) → put (sweep_of r.known.pin) p None q ≡ Some w → sweep_of r.known.pin q ≡ Some w
      was q w e = dite (ℕ_discrete q p)
          (λ same. let f : None ≡ Some w = sym (ap (put (sweep_of r.known.pin) p None) same
          ∙ put_here (sweep_of r.known.pin) p None) ∙ e in cc)
          (λ other. sym (put_else (sweep_of r.known.pin) p None q other) ∙ e)

pub sweeper_begins_step : OfEachSeat SweeperBegins
sweeper_begins_step z at heap slots id me p x y has_x has_y calm s r homes here small =
    let k = r.known in
    let old = r.stored in
    let words = words_of z at s.words in
    let n = slice_index s.words at.clock in
    let nobody : (k.index 0).sweeper ≡ None = ap (λ (u : IndexState). u.sweeper) (index_is r id me here y has_y)
    ∙ calm in (
      with_sweeper me.0 p (record x { sweep = Some (begun n) }) (record y { sweeper = Some p }),
      keeps,
      tt,
      by_sweeper r id me here p x has_x (λ u. record u { sweep = Some (begun n) }) at.clock n words.pin
          (loaded r id me here at.clock) y has_y (Some p)
          (record {
            pinned = sweeps_pinned r p (Some (begun n))
                (sweep_begins words.pin (active_of k.pass) (start_of k.pass) (announced_of k.pin)
                (sweep_of k.pin) words.clock old.pinned p);
            noted = sweeps_noted r p (Some (begun n)) (Some p)
                (sweeper_begins (k.index 0).index (active_of k.pass) (start_of k.pass) (noted_of k.pin)
                (sweep_of k.pin)
                (subst (AreNoted (k.index 0).index (active_of k.pass) (start_of k.pass) (noted_of k.pin)
                (sweep_of k.pin)) nobody old.noted) p n);
            fast = λ l on among. old.fast p l on among;
          }),
      (refl, tt),
    )

pub other_sweep_begins_step : OfEachSeat OtherSweepBegins
other_sweep_begins_step z at heap slots id me p x has_x s r homes here small =
    let k = r.known in
    let old = r.stored in
    let words = words_of z at s.words in
    let n = slice_index s.words at.clock in (
      with_pin me.0 p (record x { sweep = Some (begun n) }),
      keeps,
      tt,
      by_pin r id me here p x has_x (λ u. record u { sweep = Some (begun n) }) at.clock n words.pin
          (loaded r id me here at.clock)
          (record {
            pinned = sweeps_pinned r p (Some (begun n))
                (sweep_begins words.pin (active_of k.pass) (start_of k.pass) (announced_of k.pin)
                (sweep_of k.pin) words.clock old.pinned p);
            noted = sweeps_noted r p (Some (begun n)) (k.index 0).sweeper
                (other_sweep_begins (k.index 0).index (active_of k.pass) (start_of k.pass) (noted_of k.pin)
                (sweep_of k.pin) (k.index 0).sweeper old.noted p n);
            fast = λ l on among. old.fast p l on among;
          }),
      (refl, tt),
    )

pub sweep_looks_step : OfEachSeat SweepLooksOn
sweep_looks_step z at heap slots id me p x w has_x sweeps in_w s r homes here small =
    let k = r.known in
    let old = r.stored in
    let words = words_of z at s.words in
    let n : ℕ = slice_index s.words (at.pin w.looked) in
    let test : nat_lt w.looked z.passes ≡ true = grind (arith, nat_tests) in
    let found : words.pin w.looked ≡ n = ap (λ b. cond b n 0) test in
    let sweeping : sweep_of k.pin p ≡ Some w = ap (λ (u : PinState). u.sweep) (pin_is r id me here p x has_x)
    ∙ sweeps in (
      with_pin me.0 p (record x { sweep = Some (looked_at w n) }),
      keeps,
      tt,
      by_pin r id me here p x has_x (λ u. record u { sweep = Some (looked_at w n) })
          (at.pin w.looked) n words.pin (loaded r id me here (at.pin w.looked))
          (record {
            pinned = sweeps_pinned r p (Some (looked_at w n))
                (subst (λ m. IsPinned words.pin (active_of k.pass) (start_of k.pass) (announced_of k.pin)
                (put (sweep_of k.pin) p (Some (looked_at w m))) words.clock) found
                (sweep_looks words.pin (active_of k.pass) (start_of k.pass) (announced_of k.pin)
                (sweep_of k.pin) words.clock old.pinned p w sweeping));
            noted = sweeps_noted r p (Some (looked_at w n)) (k.index 0).sweeper
                (sweep_looks_on (k.index 0).index (active_of k.pass) (start_of k.pass) (noted_of k.pin)
                (sweep_of k.pin) (k.index 0).sweeper p w n old.noted sweeping
                (λ on l among. sym found ∙ old.pinned.held w.looked on (old.fast w.looked l on among)));
            fast = λ l on among. old.fast p l on among;
          }),
      (refl, tt),
    )

pub sweeper_ends_step : OfEachSeat SweeperEnds
sweeper_ends_step z at heap slots id me p x y has_x has_y s r homes here small =
    let k = r.known in
    let old = r.stored in
    let words = words_of z at s.words in (
      with_sweeper me.0 p (record x { sweep = None }) (record y { sweeper = None }),
      keeps,
      tt,
      by_sweeper r id me here p x has_x (λ u. record u { sweep = None }) at.clock
          (slice_index s.words at.clock) words.pin (loaded r id me here at.clock) y has_y None
          (record {
            pinned = sweeps_pinned r p None (sweep_gone r p);
            noted = sweeps_noted r p None None (sweeper_ends (k.index 0).index (active_of k.pass)
                (start_of k.pass) (noted_of k.pin) (sweep_of k.pin) (k.index 0).sweeper p old.noted);
            fast = λ l on among. old.fast p l on among;
          }),
      (refl, tt),
    )

pub other_sweep_ends_step : OfEachSeat OtherSweepEnds
other_sweep_ends_step z at heap slots id me p x has_x s r homes here small =
    let k = r.known in
    let old = r.stored in
    let words = words_of z at s.words in (
      with_pin me.0 p (record x { sweep = None }),
      keeps,
      tt,
      by_pin r id me here p x has_x (λ u. record u { sweep = None }) at.clock
          (slice_index s.words at.clock) words.pin (loaded r id me here at.clock)
          (record {
            pinned = sweeps_pinned r p None (sweep_gone r p);
            noted = sweeps_noted r p None (k.index 0).sweeper
                (other_sweep_ends (k.index 0).index (active_of k.pass) (start_of k.pass) (noted_of k.pin)
                (sweep_of k.pin) (k.index 0).sweeper p old.noted);
            fast = λ l on among. old.fast p l on among;
          }),
      (refl, tt),
    )

pub leaves_are_freed : OfEachSeat LeavesAreFreed
leaves_are_freed z at heap slots id me p x y w until most has_x has_y sweeper sweeps whole least few ready s r
    homes here small =
    let k = r.known in
    let old = r.stored in
    let new : Index = freed until most y.index in
    let y_is = index_is r id me here y has_y in
    let indexed : IsIndexed heap y.index (segment_of k.cell) =
    subst (λ (u : IndexState). IsIndexed heap u.index (segment_of k.cell)) y_is old.indexed in
    let done = frees_cells heap y.index (segment_of k.cell) until most indexed ready few in
    let kept = done.frees.keeps in
    let same : ◌≡◌ {A = Key → StampedVersions} (rows_now heap k)
    (versions_of (store_of heap new (segment_of k.cell)))
    = (λ i q. (ap (λ (u : IndexState). versions_of (store_of heap u.index (segment_of k.cell)) q) y_is
    ∙ sym (kept.versions q)) i) in
    let weight_old : weight (store_of heap y.index (segment_of k.cell)) ≤ inserted_by_all z k.pass =
    subst (λ (u : IndexState). weight (store_of heap u.index (segment_of k.cell))
    ≤ inserted_by_all z k.pass) y_is old.weighed in
    let weight_new = kept.weight in
    let was : AreNoted y.index (active_of k.pass) (start_of k.pass) (noted_of k.pin) (sweep_of k.pin) (Some p)
    = subst (AreNoted y.index (active_of k.pass) (start_of k.pass) (noted_of k.pin) (sweep_of k.pin)) sweeper
    (subst (λ (u : IndexState). AreNoted u.index (active_of k.pass) (start_of k.pass) (noted_of k.pin)
    (sweep_of k.pin) u.sweeper) y_is old.noted) in
    let now = sweeper_frees z.passes y.index new (active_of k.pass) (start_of k.pass) (noted_of k.pin)
    (sweep_of k.pin) p w was
    (ap (λ (u : PinState). u.sweep) (pin_is r id me here p x has_x) ∙ sweeps) whole
    (λ o on. inside old.shared o on) refl
    (λ m e. subst (λ n. new.retired ≡ kept_of n y.index.retired) (least m e) done.frees.retired) in (
      with_index me.0 (record y { index = new }),
      keeps,
      tt,
      by_change r id me here [] tt [] ((0, record y { index = new }) ∷ []) (none_kept me.0.passes)
          (one_kept me.0.indexes 0 y (record y { index = new }) has_y)
          (record {
            readers = r.readers;
            active = refl;
            start = refl;
            shared = subst (λ rows. IsShared z (words_of z at s.words).pass k.pass (k.journal 0) rows
                (words_of z at s.words).clock) same old.shared;
            indexed = done.indexed;
            leaves = ap (λ (u : IndexState). u.index.leaves) (sym y_is) ∙ old.leaves;
            weighed = omega (arith, weight_old, weight_new);
            noted = subst (AreNoted new (active_of k.pass) (start_of k.pass) (noted_of k.pin) (sweep_of k.pin))
                (sym sweeper) now;
          }),
      (refl, tt),
    )
