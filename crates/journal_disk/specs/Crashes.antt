-- What a crash may leave of a file: at a moment, and at some moment from an earlier one on.
use Rattle.std.specs.Prelude.{◌≡◌, ◌⊎◌, ℕ, ◌+◌, ◌-◌, ◌≤◌, min, max, List, ◌++◌, length, take, drop, replicate}

-- ---- one change

-- a file with so many bytes: cut, or filled up with zeros
abbrev pub resized : List ℕ → ℕ → List ℕ
resized file size = take size file ++ replicate (size - length file) 0

-- a file with bytes written over it from a place on, up to which it is filled with zeros where it is shorter
abbrev pub overwritten : List ℕ → ℕ → List ℕ → List ℕ
overwritten file at bytes = resized file at ++ bytes ++ drop (at + length bytes) file

-- a crash behind a write of so many bytes: there, and past the old end, may be any bytes, and all others stay
pub record Torn (at count : ℕ) (file image : List ℕ) : Type 0 where
  pub front : take (min at (length file)) image ≡ take at file
  pub back : drop (at + count) image ≡ drop (at + count) file
  pub no_shorter : length file ≤ length image
  pub no_longer : length image ≤ max (length file) (at + count)

-- a crash behind a cut: the file has some size between, and past the old end any bytes
pub record Resized (size : ℕ) (file image : List ℕ) : Type 0 where
  pub agrees : take (length file) image ≡ take (length image) file
  pub no_shorter : min size (length file) ≤ length image
  pub no_longer : length image ≤ max size (length file)

-- ---- what a crash may leave

-- whatever a crash may leave now comes of something that it might have left before, by this step
abbrev pub Follows : (List ℕ → List ℕ → Type 0) → (List ℕ → Type 0) → (List ℕ → Type 0) → Type 0
Follows step old new = (image : List ℕ) → new image → (before : List ℕ) × old before × step before image

-- a crash leaves this and nothing else
abbrev pub Only : List ℕ → (List ℕ → Type 0) → Type 0
Only file may_leave = (image : List ℕ) → may_leave image → image ≡ file

-- Time goes on: since an earlier moment a crash may have left what it might have left since then before, and else only
-- what it may leave now.
pub record Elapses (before now : ℕ) (past since : ℕ → List ℕ → Type 0) (may_leave : List ℕ → Type 0) : Type 0 where
  pub later : before ≤ now
  pub nothing_else : (t : ℕ) (c : List ℕ) → t ≤ before → since t c → past t c ⊎ may_leave c
  pub keeps : (t : ℕ) (c : List ℕ) → t ≤ before → past t c → since t c

-- Whatever a crash left at a moment since the old disk is so. Since an earlier moment it left that, or what it had left
-- before.
pub record LeavesOnly {D : Type 0} (moment : D → ℕ) (left_since : D → ℕ → List ℕ → Type 0) (old new : D)
    (IsSo : List ℕ → Type 0) : Type 0 where
  pub later : moment old ≤ moment new
  pub each : (c : List ℕ) → left_since new (moment old) c → IsSo c
  pub before : (t : ℕ) (c : List ℕ) → t ≤ moment old → left_since new t c → left_since old t c ⊎ IsSo c
