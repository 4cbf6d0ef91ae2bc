-- Pins: what each pass announces holds back every sweep. Nothing here speaks of tables.
use Rattle.std.specs.Prelude.{◌≡◌, ℕ, ◌+◌, ◌-◌, ◌==◌, ◌<◌, ◌≤◌, min, Bool, true, false, cond, Option, Some, None}
use Rattle.epoch_reclaim.specs.declared.sweep.Sweep.{Sweep}

-- ---- pin words

-- a pass with no transaction holds nothing back
abbrev pub unpinned : ℕ
unpinned = 0

-- a pass that has announced holds everything back
abbrev pub announced_word : ℕ
announced_word = 1

-- a pass that is pinned holds back what its start sees
abbrev pub pinned_word : ℕ → ℕ
pinned_word start = start + 2

-- the least start that the pass of a pin word may have
abbrev pub start_in : ℕ → Option ℕ
start_in word = cond (word == unpinned) None (cond (word == announced_word) (Some 0) (Some (word - 2)))

-- ---- sweeps

-- a number, or the least one found where that is less
abbrev pub least_with : Option ℕ → ℕ → ℕ
least_with None n = n
least_with (Some m) n = min m n

-- the least start found, after one more pin
abbrev pub least_after : Option ℕ → Option ℕ → Option ℕ
least_after least None = least
least_after least (Some start) = Some (least_with least start)

-- a sweep that has loaded the clock, and no pin yet
abbrev pub begun : ℕ → Sweep
begun clock = record { clock = clock; looked = 0; least = None }

-- a sweep after the pin word of the next pass
abbrev pub looked_at : Sweep → ℕ → Sweep
looked_at w word = record {
  clock = w.clock;
  looked = w.looked + 1;
  least = least_after w.least (start_in word);
}

-- the horizon of a sweep: the least of its clock and of the starts that it found
abbrev pub horizon_of : Sweep → ℕ
horizon_of w = least_with w.least w.clock

-- ---- who is pinned

-- each pass's pin word; whether it has an open transaction, and its start; whether it has announced; its sweep;
-- the clock
pub record IsPinned (pin : ℕ → ℕ) (active : ℕ → Bool) (start : ℕ → ℕ) (announced : ℕ → Bool)
    (sweep : ℕ → Option Sweep) (clock : ℕ) : Type 0 where
  -- an open transaction is pinned at its start, unless its pass is still announced
  pub held : (p : ℕ) → active p ≡ true → announced p ≡ false → pin p ≡ pinned_word (start p)
  pub ready : (p : ℕ) → announced p ≡ true → pin p ≡ announced_word
  -- the clock never falls
  pub within : (p : ℕ) (w : Sweep) → sweep p ≡ Some w → w.clock ≤ clock
  -- a sweep's horizon is at or below the start of each open transaction of the passes looked at, also one
  -- loaded since
  pub swept : (p : ℕ) (w : Sweep) → sweep p ≡ Some w → (o : ℕ) → o < w.looked → active o ≡ true
      → horizon_of w ≤ start o
