-- Each step of a pass and of a sweep keeps what the pins say.
use Rattle.std.proofs.Common.{◌≡◌, ℕ, ◌+◌, ◌-◌, ◌<◌, ◌≤◌, refl, sym, ◌∙◌, ap, subst, cond, arith}
use Rattle.std.specs.Prelude.{Bool, true, false, ◌==◌, Option, Some, None}
use Rattle.std.proofs.lemmas.Bool.Decides.{nat_tests}
use mathlib.Core.Logic.{dite}
use native.Mathlib.Decide.{ℕ_discrete}
use Rattle.seat_views.specs.Keeping.{put}
use Rattle.seat_views.proofs.NumberLemmas.{put_here, put_else, all_put, some_is}
use Rattle.epoch_reclaim.specs.declared.sweep.Sweep.{Sweep}
use Rattle.epoch_reclaim.specs.Pinned.{unpinned, announced_word, pinned_word, start_in, least_with, least_after, begun, looked_at, horizon_of, IsPinned}

true_false : true ≡ false → ⊥
true_false e = cc

-- ---- the horizon of a sweep

least_below : (least : Option ℕ) (n : ℕ) → least_with least n ≤ n
least_below None n = omega arith
least_below (Some m) n = omega arith

-- the horizon is at or below the clock
pub horizon_below : (w : Sweep) → horizon_of w ≤ w.clock
horizon_below w = least_below w.least w.clock

-- it never rises while the sweep looks on
pub horizon_falls : (w : Sweep) (word : ℕ) → horizon_of (looked_at w word) ≤ horizon_of w
horizon_falls w word = falls w.least (start_in word)
  where
    falls : (least found : Option ℕ) → least_with (least_after least found) w.clock ≤ least_with least w.clock
    falls least None = omega arith
    falls None (Some s) = omega arith
    falls (Some m) (Some s) = omega arith

-- it is at or below each start that was found
pub horizon_found : (w : Sweep) (word s : ℕ) → start_in word ≡ Some s → horizon_of (looked_at w word) ≤ s
horizon_found w word s found = subst (λ x. least_with (least_after w.least x) w.clock ≤ s) (sym found)
    (lower w.least)
  where
    lower : (least : Option ℕ) → least_with (least_after least (Some s)) w.clock ≤ s
    lower None = omega arith
    lower (Some m) = omega arith

-- a pinned pass shows its start
pub start_pinned : (start : ℕ) → start_in (pinned_word start) ≡ Some start
start_pinned start =
    let x : (start + 2 == 0) ≡ false = grind (arith, nat_tests) in
    let y : (start + 2 == 1) ≡ false = grind (arith, nat_tests) in
    let z : start + 2 - 2 ≡ start = omega arith in
    (λ i. cond (x i) None (cond (y i) (Some 0) (Some (start + 2 - 2)))) ∙ ap (λ n. Some n) z

-- ---- steps

module _ (pin : ℕ → ℕ) (active : ℕ → Bool) (start : ℕ → ℕ) (announced : ℕ → Bool) (sweep : ℕ → Option Sweep)
    (clock : ℕ) (s : IsPinned pin active start announced sweep clock) where
  -- a pass that has no transaction announces
  pub announces : (p : ℕ) → active p ≡ false
      → IsPinned (put pin p announced_word) active start (put announced p true) sweep clock
  announces p idle = record {
    held = λ o. dite (ℕ_discrete o p)
        (λ same _ e. absurd (true_false (sym (ap (put announced p true) same ∙ put_here announced p true) ∙ e)))
        (λ other on e. put_else pin p 1 o other ∙ s.held o on (sym (put_else announced p true o other) ∙ e));
    ready = λ o. dite (ℕ_discrete o p)
        (λ same _. ap (put pin p 1) same ∙ put_here pin p 1)
        (λ other e. put_else pin p 1 o other ∙ s.ready o (sym (put_else announced p true o other) ∙ e));
    within = s.within;
    swept = s.swept;
  }

  -- one that has announced begins: the clock is at or above each horizon
  pub begins_pinned : (p : ℕ) → announced p ≡ true
      → IsPinned pin (put active p true) (put start p clock) announced sweep clock
  begins_pinned p ready = record {
    held = λ o. dite (ℕ_discrete o p)
        (λ same _ e. absurd (true_false (sym (ap announced same ∙ ready) ∙ e)))
        (λ other on e. s.held o (sym (put_else active p true o other) ∙ on) e
        ∙ ap (λ n. n + 2) (sym (put_else start p clock o other)));
    ready = s.ready;
    within = s.within;
    swept = λ q w at o lt. dite (ℕ_discrete o p)
        (λ same _.
        let low = horizon_below w in
        let up = s.within q w at in
        subst (λ n. horizon_of w ≤ n) (sym (ap (put start p clock) same ∙ put_here start p clock))
        (omega arith))
        (λ other e. subst (λ n. horizon_of w ≤ n) (sym (put_else start p clock o other))
        (s.swept q w at o lt (sym (put_else active p true o other) ∙ e)));
  }

  -- and pins itself at its start
  pub pins : (p : ℕ) → active p ≡ true → IsPinned (put pin p (pinned_word (start p))) active start
      (put announced p false) sweep clock
  pins p on = record {
    held = λ o. dite (ℕ_discrete o p)
        (λ same _ _. ap (put pin p (start p + 2)) same ∙ put_here pin p (start p + 2)
        ∙ ap (λ q. start q + 2) (sym same))
        (λ other on e. put_else pin p (start p + 2) o other
        ∙ s.held o on (sym (put_else announced p false o other) ∙ e));
    ready = λ o. dite (ℕ_discrete o p)
        (λ same e. let f : false ≡ true = sym (ap (put announced p false) same ∙ put_here announced p false)
        ∙ e in cc)
        (λ other e. put_else pin p (start p + 2) o other
        ∙ s.ready o (sym (put_else announced p false o other) ∙ e));
    within = s.within;
    swept = s.swept;
  }

  -- a transaction ends, and the clock may rise
  pub ends_pinned : (p later : ℕ) → clock ≤ later
      → IsPinned pin (put active p false) start announced sweep later
  ends_pinned p later le = record {
    held = λ o e f. s.held o (was o e) f;
    ready = s.ready;
    within = λ q w at. let b = s.within q w at in omega arith;
    swept = λ q w at o lt e. s.swept q w at o lt (was o e);
  }
    where
      was : (o : ℕ) → put active p false o ≡ true → active o ≡ true
      was o = dite (ℕ_discrete o p)
          (λ same e. let f : false ≡ true = sym (ap (put active p false) same ∙ put_here active p false) ∙ e in
          cc)
          (λ other e. sym (put_else active p false o other) ∙ e)

  -- a pass that has no transaction takes its pin away
  pub unpins : (p : ℕ) → active p ≡ false
      → IsPinned (put pin p unpinned) active start (put announced p false) sweep clock
  unpins p idle = record {
    held = λ o. dite (ℕ_discrete o p)
        (λ same on _. absurd (true_false (sym on ∙ ap active same ∙ idle)))
        (λ other on e. put_else pin p 0 o other ∙ s.held o on (sym (put_else announced p false o other) ∙ e));
    ready = λ o. dite (ℕ_discrete o p)
        (λ same e. let f : false ≡ true = sym (ap (put announced p false) same ∙ put_here announced p false)
        ∙ e in cc)
        (λ other e. put_else pin p 0 o other ∙ s.ready o (sym (put_else announced p false o other) ∙ e));
    within = s.within;
    swept = s.swept;
  }

  has_swept : (p : ℕ) (w : Sweep) → w.clock ≤ clock
      → ((o : ℕ) → o < w.looked → active o ≡ true → horizon_of w ≤ start o)
      → IsPinned pin active start announced (put sweep p (Some w)) clock
  has_swept p w within swept = record {
    held = s.held;
    ready = s.ready;
    within = all_put (λ q x. (u : Sweep) → x ≡ Some u → u.clock ≤ clock) sweep p (Some w)
        (λ u e. subst (λ (v : Sweep). v.clock ≤ clock) (some_is w u e) within)
        (λ q _. s.within q);
    swept = all_put (λ q x. (u : Sweep) → x ≡ Some u → (o : ℕ) → o < u.looked → active o ≡ true
        → horizon_of u ≤ start o) sweep p (Some w)
        (λ u e. subst (λ (v : Sweep). (o : ℕ) → o < v.looked → active o ≡ true
        → horizon_of v ≤ start o) (some_is w u e) swept)
        (λ q _. s.swept q);
  }

  -- a sweep begins with the clock
  pub sweep_begins : (p : ℕ) → IsPinned pin active start announced (put sweep p (Some (begun clock))) clock
  sweep_begins p = has_swept p (begun clock) (omega arith) (λ o lt. absurd (omega arith))

  -- and looks at one pin after another
  pub sweep_looks : (p : ℕ) (w : Sweep) → sweep p ≡ Some w
      → IsPinned pin active start announced (put sweep p (Some (looked_at w (pin w.looked)))) clock
  sweep_looks p w at =
      has_swept p (looked_at w (pin w.looked)) (s.within p w at)
      (λ o lt on. dite (ℕ_discrete o w.looked)
      (λ same. at_next (announced o) o refl on same)
      (λ other.
      let low = horizon_falls w (pin w.looked) in
      let before = s.swept p w at o (omega arith) on in omega arith))
    where
      -- the pass at which it looks now
      at_next : (b : Bool) (o : ℕ) → announced o ≡ b → active o ≡ true → o ≡ w.looked
          → horizon_of (looked_at w (pin w.looked)) ≤ start o
      at_next true o e on same =
          let found : start_in (pin w.looked) ≡ Some 0 = ap start_in (ap pin (sym same) ∙ s.ready o e) in
          let low = horizon_found w (pin w.looked) 0 found in omega arith
      at_next false o e on same =
          horizon_found w (pin w.looked) (start o) (ap start_in (ap pin (sym same) ∙ s.held o on e)
          ∙ start_pinned (start o))

  -- what a whole sweep has found holds back all that is needed
  pub horizon_safe : (p passes : ℕ) (w : Sweep) → sweep p ≡ Some w → passes ≤ w.looked
      → ((o : ℕ) → active o ≡ true → o < passes)
      → (horizon_of w ≤ clock) × ((o : ℕ) → active o ≡ true → horizon_of w ≤ start o)
  horizon_safe p passes w at all few =
      let low = horizon_below w in
      let up = s.within p w at in
      (omega arith, λ o on. let lt = few o on in s.swept p w at o (omega arith) on)
