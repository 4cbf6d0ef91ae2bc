-- A view is cut where each thing goes to one side, and notes are joined.
use Rattle.std.proofs.Common.{◌≡◌, ◌≢◌, inl, inr, ℕ, suc, List, [], ◌∷◌, length, refl, sym, ◌∙◌, ap, cond, arith}
use Rattle.std.proofs.lemmas.Bool.Decides.{nat_tests}
use Rattle.std.specs.Prelude.{Bool, true, false, ◌==◌, Some, None, nat_le}
use Rattle.graph_model.specs.declared.journal.Commit.{Commit}
use Rattle.seat_views.specs.Keeping.{kept_at, without, only}
use Rattle.seat_views.proofs.NumberLemmas.{eq_of, none_or_some, only_kept, some_is, without_kept}
use Rattle.rule_model.specs.StoreRelation.Shared.{longer_of}
use Rattle.rule_model.specs.Sight.{Sight, no_sight}
use Rattle.rule_model.specs.ViewSteps.{IsCut, IsSplit}

-- ---- entries of one number

module _ {A : Type 0} where
  -- the one of a number that is kept
  pub only_is : (n : ℕ) (es : List (ℕ × A)) (a : A) → kept_at es n ≡ Some a → only n es ≡ (n, a) ∷ []
  only_is n [] a e = cc
  only_is n (x ∷ es) a e = by_test (n == x.0) refl e (only_is n es a)
    where
      by_test : (t : Bool) → (n == x.0) ≡ t → cond t (Some x.1) (kept_at es n) ≡ Some a
          → (kept_at es n ≡ Some a → only n es ≡ (n, a) ∷ [])
          → cond t (x ∷ []) (only n es) ≡ (n, a) ∷ []
      by_test true is f ih = λ i. (sym (eq_of n x.0 is) i, some_is x.1 a f i) ∷ []
      by_test false is f ih = ih f

  -- without one number the others are kept as they were
  pub without_else : (n k : ℕ) (es : List (ℕ × A)) → k ≢ n → kept_at (without n es) k ≡ kept_at es k
  without_else n k [] other = refl
  without_else n k (x ∷ es) other =
      by_tests (n == x.0) (k == x.0) refl refl (without_else n k es other)
    where
      by_tests : (s t : Bool) → (n == x.0) ≡ s → (k == x.0) ≡ t → kept_at (without n es) k ≡ kept_at es k
          → kept_at (cond s (without n es) (x ∷ without n es)) k ≡ cond t (Some x.1) (kept_at es k)
      by_tests true true e f ih = absurd (other (eq_of k x.0 f ∙ sym (eq_of n x.0 e)))
      by_tests true false e f ih = ih
      by_tests false true e f ih = ap (λ t. cond t (Some x.1) (kept_at (without n es) k)) f
      by_tests false false e f ih = ap (λ t. cond t (Some x.1) (kept_at (without n es) k)) f ∙ ih

  module _ (part : Sight → List (ℕ × A)) where
    -- all goes to the left
    pub all_left : (v left right : Sight) → part left ≡ part v → part right ≡ [] → IsCut part v left right
    all_left v left right same none = record {
      left_kept = λ k a e. (ap (λ l. kept_at l k) (sym same) ∙ e, ap (λ l. kept_at l k) none);
      right_kept = λ k a e. let f : None ≡ Some a = ap (λ l. kept_at l k) (sym none) ∙ e in cc;
    }

    -- or the entries of one number go to the right
    pub one_right : (n : ℕ) (v left right : Sight) → part left ≡ without n (part v)
        → part right ≡ only n (part v) → IsCut part v left right
    one_right n v left right of_left of_right = record {
      left_kept = λ k a e.
          let w = without_kept n (part v) k a (ap (λ l. kept_at l k) (sym of_left) ∙ e) in
          (w.0, ap (λ l. kept_at l k) of_right ∙ gone k w.1);
      right_kept = λ k a e. (only_kept n (part v) k a (ap (λ l. kept_at l k) (sym of_right) ∙ e)).0;
    }
      where
        gone : (k : ℕ) → k ≢ n → kept_at (only n (part v)) k ≡ None
        gone k other = elim (none_or_some (kept_at (only n (part v)) k)) as
            (λ _. kept_at (only n (part v)) k ≡ None) [
              | inl none ↦ none
              | inr h ↦ absurd (other (only_kept n (part v) k h.0 h.1).1)
            ]

-- ---- the cuts that notes need

-- only what is kept by number is cut, and nothing is told
module _ (v left right : Sight) (told : left.told ≡ v.told) (readers : left.readers ≡ v.readers)
    (reads : left.reads ≡ v.reads) (right_told : right.told ≡ []) (right_readers : right.readers ≡ [])
    (right_reads : right.reads.reading ≡ None) where
  pub cut : IsCut (λ (u : Sight). u.passes) v left right → IsCut (λ (u : Sight). u.pins) v left right
      → IsCut (λ (u : Sight). u.cells) v left right → IsCut (λ (u : Sight). u.indexes) v left right
      → IsCut (λ (u : Sight). u.journals) v left right → IsSplit v left right
  cut passes pins cells indexes journals = record {
    passes = passes;
    pins = pins;
    cells = cells;
    indexes = indexes;
    journals = journals;
    told = told;
    readers = readers;
    reads = reads;
    right_told = inl right_told;
    right_readers = right_readers;
    right_reads = right_reads;
  }

abbrev pub right_cell : ℕ → Sight → Sight
right_cell k v = record no_sight { cells = only k v.cells }

pub cuts_cell : (k : ℕ) (v : Sight) → IsSplit v (record v { cells = without k v.cells }) (right_cell k v)
cuts_cell k v =
    let left = record v { cells = without k v.cells } in
    let right = right_cell k v in
    cut v left right refl refl refl refl refl refl
    (all_left (λ (u : Sight). u.passes) v left right refl refl)
    (all_left (λ (u : Sight). u.pins) v left right refl refl)
    (one_right (λ (u : Sight). u.cells) k v left right refl refl)
    (all_left (λ (u : Sight). u.indexes) v left right refl refl)
    (all_left (λ (u : Sight). u.journals) v left right refl refl)

abbrev pub right_index : Sight → Sight
right_index v = record no_sight { indexes = only 0 v.indexes }

pub cuts_index : (v : Sight) → IsSplit v (record v { indexes = without 0 v.indexes }) (right_index v)
cuts_index v =
    let left = record v { indexes = without 0 v.indexes } in
    let right = right_index v in
    cut v left right refl refl refl refl refl refl
    (all_left (λ (u : Sight). u.passes) v left right refl refl)
    (all_left (λ (u : Sight). u.pins) v left right refl refl)
    (all_left (λ (u : Sight). u.cells) v left right refl refl)
    (one_right (λ (u : Sight). u.indexes) 0 v left right refl refl)
    (all_left (λ (u : Sight). u.journals) v left right refl refl)

abbrev pub right_journal : Sight → Sight
right_journal v = record no_sight { journals = only 0 v.journals }

pub cuts_journal : (v : Sight) → IsSplit v (record v { journals = without 0 v.journals }) (right_journal v)
cuts_journal v =
    let left = record v { journals = without 0 v.journals } in
    let right = right_journal v in
    cut v left right refl refl refl refl refl refl
    (all_left (λ (u : Sight). u.passes) v left right refl refl)
    (all_left (λ (u : Sight). u.pins) v left right refl refl)
    (all_left (λ (u : Sight). u.cells) v left right refl refl)
    (all_left (λ (u : Sight). u.indexes) v left right refl refl)
    (one_right (λ (u : Sight). u.journals) 0 v left right refl refl)

abbrev pub right_pass : ℕ → Sight → Sight
right_pass p v = record no_sight { passes = only p v.passes; pins = only p v.pins }

pub cuts_pass : (p : ℕ) (v : Sight)
    → IsSplit v (record v { passes = without p v.passes; pins = without p v.pins }) (right_pass p v)
cuts_pass p v =
    let left = record v { passes = without p v.passes; pins = without p v.pins } in
    let right = right_pass p v in
    cut v left right refl refl refl refl refl refl
    (one_right (λ (u : Sight). u.passes) p v left right refl refl)
    (one_right (λ (u : Sight). u.pins) p v left right refl refl)
    (all_left (λ (u : Sight). u.cells) v left right refl refl)
    (all_left (λ (u : Sight). u.indexes) v left right refl refl)
    (all_left (λ (u : Sight). u.journals) v left right refl refl)

-- ---- joins

-- of some commits and none the longer are the former
pub longer_none : (commits : List Commit) → longer_of commits [] ≡ commits
longer_none [] = refl
longer_none (c ∷ cs) =
    let longer : nat_le (suc (length cs)) 0 ≡ false = grind (arith, nat_tests) in ap (λ b. cond b [] (c ∷ cs)) longer
