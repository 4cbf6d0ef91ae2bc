-- Worked examples: places of words, and wrong rules that are refused.
use Rattle.std.specs.Prelude.{◌≡◌, ℕ, ◌==◌, Bool, true, false, [], ◌∷◌, Some, None}
use Rattle.seat_views.specs.Keeping.{Keeps, put}
use Rattle.epoch_reclaim.specs.declared.sweep.Sweep.{Sweep}
use Rattle.epoch_reclaim.specs.Pinned.{IsPinned, announced_word, begun, horizon_of, looked_at, pinned_word}
use Rattle.cells_model.specs.Cells.{CellState}
use Rattle.rule_model.specs.Places.{block_place, lines}
use Rattle.rule_model.specs.Sight.{Sight, HasCell}

-- ---- places

-- 64 passes: the clock in the second line, words and pins in 128 lines behind it, then 102 words
-- a cell
pub record PlaceExamples : Type 0 where
  pub clock : (lines 64).clock ≡ 8
  pub pass : (lines 64).pass 63 ≡ 1024
  pub pin : (lines 64).pin 63 ≡ 1032
  pub cell : (lines 64).cell 0 ≡ 1040
  pub word : block_place (lines 64) 2 5 ≡ 1249

-- ---- wrong rules

-- a pass that is in none of its states
abbrev pub nobody : ℕ → Bool
nobody p = false

abbrev pub first_pass : ℕ → Bool
first_pass p = p == 0

-- a sweep at clock 9 that has looked at one pin, of a pass that is pinned at 4; and one that has
-- found nothing
abbrev pub sweep_found : Sweep
sweep_found = looked_at (begun 9) (pinned_word 4)

abbrev pub sweep_blind : Sweep
sweep_blind = record { clock = 9; looked = 1; least = None }

pub record WrongRules : Type 0 where
  -- a transaction that begins unannounced, at the clock 9: its pin tells no sweep of it
  pub unannounced : IsPinned (λ p. 0) (put nobody 0 true) (put (λ p. 0) 0 9) nobody
      (λ p. None) 9 → ⊥
  -- an announced one may
  pub announced : IsPinned (λ p. announced_word) (put nobody 0 true)
      (put (λ p. 0) 0 9) first_pass (λ p. None) 9
  -- a prune at the clock, while a transaction began at 4: no sweep has that horizon
  pub at_the_clock : IsPinned (λ p. pinned_word 4) first_pass (λ p. 4) nobody
      (λ p. Some sweep_blind) 9 → ⊥
  pub clock_horizon : horizon_of sweep_blind ≡ 9
  -- a sweep that has looked has that of the transaction
  pub horizon : horizon_of sweep_found ≡ 4
  -- two passes that hold one cell
  pub two_holders : (k : ℕ) (c d : CellState) (v w : Sight) → HasCell v k c → HasCell w k d
      → (cell : ℕ → CellState) (keeper : ℕ → ℕ)
      → Keeps (λ (u : Sight). u.cells) (v ∷ w ∷ []) cell keeper → ⊥
