-- The images of a file, by the calls that were made on it.
use Rattle.std.specs.Prelude.{◌≡◌, ◌⊎◌, ℕ, zero, suc, ◌≤◌, List, [], ◌∷◌, length}
use mathlib.Core.Logic.{inl, inr}
use Rattle.journal_disk.specs.declared.memory_disk.Step.{Step}
use Rattle.journal_disk.specs.declared.memory_disk.Step.TheVariants.{Chosen, Wrote, Sized, Synced}
use Rattle.journal_disk.specs.Crashes.{Torn, Resized}

-- what a crash may leave behind a step, where this is what it might have left before: of a file that is chosen anew
-- nothing is known before its first sync
abbrev pub after : Step → (List ℕ → Type 0) → List ℕ → Type 0
after Chosen before image = Unit {0}
after (Wrote at count) before image = (file : List ℕ) × before file × Torn at count file image
after (Sized size) before image = (file : List ℕ) × before file × Resized size file image
after (Synced file) before image = image ≡ file.items

-- and behind steps, the first of them first
abbrev pub outcomes : (List ℕ → Type 0) → List Step → List ℕ → Type 0
outcomes before [] image = before image
outcomes before (step ∷ steps) image = outcomes (after step before) steps image

-- the outcomes behind so many of the steps, or behind more of them
abbrev pub outcomes_since : (List ℕ → Type 0) → List Step → ℕ → List ℕ → Type 0
outcomes_since before [] from image = before image
outcomes_since before (step ∷ steps) zero image = before image ⊎ outcomes_since (after step before) steps zero image
outcomes_since before (step ∷ steps) (suc from) image = outcomes_since (after step before) steps from image

-- before the first step nothing is known
abbrev pub unknown : List ℕ → Type 0
unknown image = Unit {0}

-- those behind all steps are among them
pub since_now : (before : List ℕ → Type 0) (steps : List Step) (from : ℕ) (image : List ℕ)
    → outcomes before steps image → outcomes_since before steps from image
since_now before [] from image now = now
since_now before (step ∷ steps) zero image now = inr (since_now (after step before) steps zero image now)
since_now before (step ∷ steps) (suc from) image now = since_now (after step before) steps from image now

-- and they alone are behind as many steps as there are
pub until_now : (before : List ℕ → Type 0) (steps : List Step) (image : List ℕ)
    → outcomes_since before steps (length steps) image → outcomes before steps image
until_now before [] image now = now
until_now before (step ∷ steps) image now = until_now (after step before) steps image now
