-- What each step of a pass does to who is pinned, and what a whole sweep may rely on. Each law is a clause of a
-- function in `laws`.
use Rattle.std.specs.Prelude.{◌≡◌, ℕ, ◌<◌, ◌≤◌, Bool, true, false, Option, Some}
use Rattle.seat_views.specs.Keeping.{put}
use Rattle.epoch_reclaim.specs.declared.sweep.Sweep.{Sweep}
use Rattle.epoch_reclaim.specs.Pinned.{announced_word, unpinned, pinned_word, begun, looked_at, horizon_of, IsPinned}

-- a pass that has no transaction announces
abbrev pub PassAnnounces : Type 0
PassAnnounces =
    (pin : ℕ → ℕ) (active : ℕ → Bool) (start : ℕ → ℕ) (announced : ℕ → Bool) (sweep : ℕ → Option Sweep)
    (clock : ℕ)
    → IsPinned pin active start announced sweep clock
    → (p : ℕ) → active p ≡ false
    → IsPinned (put pin p announced_word) active start (put announced p true) sweep clock

-- one that has announced begins at the clock, whatever sweeps are under way
abbrev pub PassBegins : Type 0
PassBegins =
    (pin : ℕ → ℕ) (active : ℕ → Bool) (start : ℕ → ℕ) (announced : ℕ → Bool) (sweep : ℕ → Option Sweep)
    (clock : ℕ)
    → IsPinned pin active start announced sweep clock
    → (p : ℕ) → announced p ≡ true
    → IsPinned pin (put active p true) (put start p clock) announced sweep clock

-- and then pins itself at its start
abbrev pub PassPins : Type 0
PassPins =
    (pin : ℕ → ℕ) (active : ℕ → Bool) (start : ℕ → ℕ) (announced : ℕ → Bool) (sweep : ℕ → Option Sweep)
    (clock : ℕ)
    → IsPinned pin active start announced sweep clock
    → (p : ℕ) → active p ≡ true
    → IsPinned (put pin p (pinned_word (start p))) active start (put announced p false) sweep clock

-- its transaction ends, and the clock may rise
abbrev pub PassEnds : Type 0
PassEnds =
    (pin : ℕ → ℕ) (active : ℕ → Bool) (start : ℕ → ℕ) (announced : ℕ → Bool) (sweep : ℕ → Option Sweep)
    (clock : ℕ)
    → IsPinned pin active start announced sweep clock
    → (p later : ℕ) → clock ≤ later
    → IsPinned pin (put active p false) start announced sweep later

-- a pass that has no transaction takes its pin away
abbrev pub PassUnpins : Type 0
PassUnpins =
    (pin : ℕ → ℕ) (active : ℕ → Bool) (start : ℕ → ℕ) (announced : ℕ → Bool) (sweep : ℕ → Option Sweep)
    (clock : ℕ)
    → IsPinned pin active start announced sweep clock
    → (p : ℕ) → active p ≡ false
    → IsPinned (put pin p unpinned) active start (put announced p false) sweep clock

-- a sweep begins with the clock
abbrev pub SweepBegins : Type 0
SweepBegins =
    (pin : ℕ → ℕ) (active : ℕ → Bool) (start : ℕ → ℕ) (announced : ℕ → Bool) (sweep : ℕ → Option Sweep)
    (clock : ℕ)
    → IsPinned pin active start announced sweep clock
    → (p : ℕ) → IsPinned pin active start announced (put sweep p (Some (begun clock))) clock

-- and looks at one pin after another
abbrev pub SweepLooks : Type 0
SweepLooks =
    (pin : ℕ → ℕ) (active : ℕ → Bool) (start : ℕ → ℕ) (announced : ℕ → Bool) (sweep : ℕ → Option Sweep)
    (clock : ℕ)
    → IsPinned pin active start announced sweep clock
    → (p : ℕ) (w : Sweep) → sweep p ≡ Some w
    → IsPinned pin active start announced (put sweep p (Some (looked_at w (pin w.looked)))) clock

-- where it has looked at all passes, its horizon is at or below the clock and each open transaction's start
abbrev pub HorizonIsSafe : Type 0
HorizonIsSafe =
    (pin : ℕ → ℕ) (active : ℕ → Bool) (start : ℕ → ℕ) (announced : ℕ → Bool) (sweep : ℕ → Option Sweep)
    (clock : ℕ)
    → IsPinned pin active start announced sweep clock
    → (p passes : ℕ) (w : Sweep) → sweep p ≡ Some w → passes ≤ w.looked
    → ((o : ℕ) → active o ≡ true → o < passes)
    → (horizon_of w ≤ clock) × ((o : ℕ) → active o ≡ true → horizon_of w ≤ start o)
