-- What one step more does to the images of a file.
use Rattle.std.proofs.Common.{◌≡◌, ◌⊎◌, inl, inr, ⊎_elim, ℕ, zero, suc, ◌+◌, ◌≤◌, List, [], ◌∷◌, ◌++◌, length, sym, subst, arith, length-append}
use Rattle.journal_disk.specs.declared.memory_disk.Step.{Step}
use Rattle.journal_disk.specs.declared.memory_disk.Step.TheVariants.{Synced}
use Rattle.std.specs.declared.vec.Vec.{Vec}
use Rattle.std.specs.declared.alloc.Global.{Global}
use Rattle.journal_disk.specs.Crashes.{Elapses}
use Rattle.journal_disk.specs.Steps.{after, outcomes, outcomes_since, unknown}

-- behind one step more are what it makes of the outcomes before
pub last : (before : List ℕ → Type 0) (steps : List Step) (step : Step) (image : List ℕ)
    → outcomes before (steps ++ step ∷ []) image → after step (outcomes before steps) image
last before [] step image now = now
last before (s ∷ steps) step image now = last (after s before) steps step image now

pub last_back : (before : List ℕ → Type 0) (steps : List Step) (step : Step) (image : List ℕ)
    → after step (outcomes before steps) image → outcomes before (steps ++ step ∷ []) image
last_back before [] step image now = now
last_back before (s ∷ steps) step image now = last_back (after s before) steps step image now

-- what there was since a moment there still is
kept : (before : List ℕ → Type 0) (steps : List Step) (step : Step) (from : ℕ) (image : List ℕ) → from ≤ length steps
    → outcomes_since before steps from image → outcomes_since before (steps ++ step ∷ []) from image
kept before [] step zero image le now = inl now
kept before [] step (suc from) image le now = absurd (omega (arith, le))
kept before (s ∷ steps) step zero image le (inl now) = inl now
kept before (s ∷ steps) step zero image le (inr later) = inr (kept (after s before) steps step zero image (omega arith) later)
kept before (s ∷ steps) step (suc from) image le later = kept (after s before) steps step from image (omega (arith, le)) later

-- and what is new is behind all steps
added : (before : List ℕ → Type 0) (steps : List Step) (step : Step) (from : ℕ) (image : List ℕ)
    → outcomes_since before (steps ++ step ∷ []) from image
    → outcomes_since before steps from image ⊎ outcomes before (steps ++ step ∷ []) image
added before [] step zero image (inl now) = inl now
added before [] step zero image (inr later) = inr later
added before [] step (suc from) image later = inr later
added before (s ∷ steps) step zero image (inl now) = inl (inl now)
added before (s ∷ steps) step zero image (inr later) =
    ⊎_elim (λ old. inl (inr old)) (λ new. inr new) (added (after s before) steps step zero image later)
added before (s ∷ steps) step (suc from) image later = added (after s before) steps step from image later

-- time stands still where no step is made
pub stays : (old new : List Step) → new ≡ old
    → Elapses (length old) (length new) (outcomes_since unknown old) (outcomes_since unknown new) (outcomes unknown new)
stays old new same =
    subst (λ steps. Elapses (length old) (length steps) (outcomes_since unknown old) (outcomes_since unknown steps) (outcomes unknown steps)) (sym same)
    (record { later = omega arith; nothing_else = λ t c le since. inl since; keeps = λ t c le since. since })

-- and goes on with a step
pub goes_on : (old new : List Step) (step : Step) → new ≡ old ++ step ∷ []
    → Elapses (length old) (length new) (outcomes_since unknown old) (outcomes_since unknown new) (outcomes unknown new)
goes_on old new step more =
    subst (λ steps. Elapses (length old) (length steps) (outcomes_since unknown old) (outcomes_since unknown steps) (outcomes unknown steps)) (sym more)
    (record {
      later = omega (arith, length-append old (step ∷ []));
      nothing_else = λ t c le since. added unknown old step t c since;
      keeps = λ t c le since. kept unknown old step t c le since;
    })

-- a sync leaves what was read
pub synced : (old new : List Step) (copy : Vec ℕ Global) → new ≡ old ++ Synced copy ∷ [] → (image : List ℕ) → outcomes unknown new image → image ≡ copy.items
synced old new copy more image left = last unknown old (Synced copy) image (subst (λ steps. outcomes unknown steps image) more left)
