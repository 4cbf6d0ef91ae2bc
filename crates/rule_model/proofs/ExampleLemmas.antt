-- The worked examples hold, and the wrong rules are refused.
use Rattle.std.proofs.Common.{◌≡◌, ℕ, ◌≤◌, refl, sym, cond, arith}
use Rattle.std.specs.Prelude.{Bool, true, false, ◌==◌, Some, None}
use Rattle.std.proofs.lemmas.Bool.{true≢false}
use Rattle.seat_views.specs.Keeping.{put}
use Rattle.epoch_reclaim.specs.Pinned.{pinned_word}
use Rattle.rule_model.specs.Examples.{PlaceExamples, WrongRules, nobody}

pub place_examples : PlaceExamples
place_examples = record { clock = refl; pass = refl; pin = refl; cell = refl; word = refl }

pub wrong_rules : WrongRules
wrong_rules = record {
  unannounced = λ is. let n : 0 ≡ 11 = is.held 0 refl refl in absurd (omega (arith, n));
  announced = record {
    held = λ p on off. unlike p on off;
    ready = λ p on. refl;
    within = λ p w e. let f : None ≡ Some w = e in cc;
    swept = λ p w e. let f : None ≡ Some w = e in cc;
  };
  at_the_clock = λ is. let le : 9 ≤ 4 = is.swept 0 _ refl 0 (omega arith) refl in absurd (omega (arith, le));
  clock_horizon = refl;
  horizon = refl;
  two_holders = λ k c d v w has also cell keeper keeps.
      let a : keeper k ≡ 0 = (keeps 0 v k c refl has).0 in
      let b : keeper k ≡ 1 = (keeps 1 w k d refl also).0 in
      absurd (omega (arith, a, b));
}
  where
    unlike : (p : ℕ) → put nobody 0 true p ≡ true → (p == 0) ≡ false
        → 1 ≡ pinned_word (put (λ q. 0) 0 9 p)
    unlike p on off = by_test (p == 0) on off
      where
        by_test : (b : Bool) → cond b true false ≡ true → b ≡ false → 1 ≡ pinned_word (cond b 9 0)
        by_test true e f = absurd (true≢false f)
        by_test false e f = absurd (true≢false (sym e))
