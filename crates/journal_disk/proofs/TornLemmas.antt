-- What a crash may leave where nothing was done.
use Rattle.std.proofs.Common.{◌≡◌, ◌⊎◌, inl, inr, ⊎_elim, ℕ, ◌+◌, ◌≤◌, List, [], ◌∷◌, ◌++◌, length, take, refl, sym, ◌∙◌, ap, subst, arith}
use Rattle.std.specs.Prelude.{min, max, Bool, true, false, nat_le, Some}
use Rattle.std.proofs.lemmas.Bool.Decides.{nat_tests}
use Rattle.std.proofs.lemmas.List.{take_all}
use Rattle.journal_disk.specs.declared.memory_disk.Step.{Step}
use Rattle.journal_disk.specs.declared.memory_disk.Step.TheVariants.{Wrote, Sized}
use Rattle.journal_disk.specs.Crashes.{Torn, Resized, Follows}
use Rattle.journal_disk.specs.Disk.{DiskState, KeepsOthers}
use Rattle.journal_disk.specs.declared.memory_disk.MemoryDisk.{MemoryDisk}
use Rattle.journal_disk.specs.MemoryDisk.{state_of, steps_of, Replaces}
use Rattle.journal_disk.specs.Steps.{outcomes, unknown}
use Rattle.journal_disk.proofs.StepLemmas.{last}

-- the file itself is one of the images of a write
pub torn_same : (at count : ℕ) (file : List ℕ) → Torn at count file file
torn_same at count file = record {
  front = front (nat_le at (length file)) refl;
  back = refl;
  no_shorter = omega arith;
  no_longer = omega arith;
}
  where
    front : (t : Bool) → nat_le at (length file) ≡ t → take (min at (length file)) file ≡ take at file
    front true is = let e : min at (length file) ≡ at = grind (arith, nat_tests) in ap (λ n. take n file) e
    front false is =
        let e : min at (length file) ≡ length file = grind (arith, nat_tests) in
        let le : length file ≤ at = grind (arith, nat_tests) in
        ap (λ n. take n file) e ∙ take_all (length file) file (omega arith) ∙ sym (take_all at file le)

-- and of a cut
pub resized_same : (size : ℕ) (file : List ℕ) → Resized size file file
resized_same size file = record { agrees = refl; no_shorter = omega arith; no_longer = omega arith }

-- a write is one step more
pub torn_follows : (at count : ℕ) (old new : List Step) → new ≡ old ++ Wrote at count ∷ []
    → Follows (Torn at count) (outcomes unknown old) (outcomes unknown new)
torn_follows at count old new more image left =
    last unknown old (Wrote at count) image (subst (λ steps. outcomes unknown steps image) more left)

-- or none
pub torn_stays : (at count : ℕ) (old new : List Step) → new ≡ old
    → Follows (Torn at count) (outcomes unknown old) (outcomes unknown new)
torn_stays at count old new same image left =
    (image, subst (λ steps. outcomes unknown steps image) same left, torn_same at count image)

pub sized_follows : (size : ℕ) (old new : List Step) → new ≡ old ++ Sized size ∷ []
    → Follows (Resized size) (outcomes unknown old) (outcomes unknown new)
sized_follows size old new more image left =
    last unknown old (Sized size) image (subst (λ steps. outcomes unknown steps image) more left)

pub sized_stays : (size : ℕ) (old new : List Step) → new ≡ old
    → Follows (Resized size) (outcomes unknown old) (outcomes unknown new)
sized_stays size old new same image left =
    (image, subst (λ steps. outcomes unknown steps image) same left, resized_same size image)

-- a failure is counted, and no more is changed
pub others_stay : (old mid new : DiskState) → mid ≡ old → new ≡ record mid { faults = new.faults } → KeepsOthers old new
others_stay old mid new same rest = record {
  chosen = ap (λ s. s.chosen) rest ∙ ap (λ s. s.chosen) same;
  others = λ other apart. (λ i. (rest i).holds other) ∙ (λ i. (same i).holds other);
  tells = ap (λ s. s.tells) rest ∙ ap (λ s. s.tells) same;
}

-- a step behind a call that was counted
pub replaced : (file file' : List ℕ) (step step' : Step) (old mid new : MemoryDisk) (calls : ℕ) → file ≡ file' → step ≡ step'
    → mid ≡ record old { calls = calls } → Replaces file step mid new → Replaces file' step' old new
replaced file file' step step' old mid new calls same_file same_step rest r = record {
  put = r.put ∙ ap Some same_file;
  others = subst (λ s. KeepsOthers s (state_of new)) (ap state_of rest) r.others;
  steps = r.steps ∙ (λ i. steps_of (rest i) ++ same_step i ∷ []);
  faults = r.faults ∙ ap (λ d. d.faults) rest;
}
