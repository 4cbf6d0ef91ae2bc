-- Lists of passes of which the first two do something.
use Rattle.std.proofs.Common.{◌≡◌, ℕ, zero, suc, List, [], ◌∷◌, refl, ◌∙◌, subst}
use Rattle.std.specs.Prelude.{Option, Some, slice_get, slice_set}
use Rattle.shared_store.specs.StoreRuleDeclared.store.Store.{Store}
use Rattle.shared_store.specs.declared.pass.Pass.{Pass}
use Rattle.shared_store.specs.Ends.{AreIdle}
use Rattle.shared_store.specs.Passes.{IsIdle}

same_pass : (a b : Pass) → ◌≡◌ {A = Option Pass} (Some a) (Some b) → a ≡ b
same_pass a b e = cc

module _ (store : Store) (one two : Pass) (rest : List Pass) (all : AreIdle store (one ∷ two ∷ rest)) where
  -- all are idle where these two are again, with their numbers
  module _ (new_one new_two : Pass) (one_idle : IsIdle store new_one) (two_idle : IsIdle store new_two)
      (one_number : new_one.seats.number ≡ one.seats.number)
      (two_number : new_two.seats.number ≡ two.seats.number) where
    idle_at : (p : ℕ) (pass : Pass) → slice_get (new_one ∷ new_two ∷ rest) p ≡ Some pass → IsIdle store pass
    idle_at zero pass at = subst (IsIdle store) (same_pass new_one pass at) one_idle
    idle_at (suc zero) pass at = subst (IsIdle store) (same_pass new_two pass at) two_idle
    idle_at (suc (suc p)) pass at = all.idle (suc (suc p)) pass at

    number_at : (p : ℕ) (pass : Pass) → slice_get (new_one ∷ new_two ∷ rest) p ≡ Some pass → pass.seats.number ≡ p
    number_at zero pass at =
        subst (λ (x : Pass). x.seats.number ≡ 0) (same_pass new_one pass at) (one_number ∙ all.numbers 0 one refl)
    number_at (suc zero) pass at =
        subst (λ (x : Pass). x.seats.number ≡ 1) (same_pass new_two pass at) (two_number ∙ all.numbers 1 two refl)
    number_at (suc (suc p)) pass at = all.numbers (suc (suc p)) pass at

    pub both_idle : AreIdle store (new_one ∷ new_two ∷ rest)
    both_idle = record { count = all.count; idle = idle_at; numbers = number_at }

-- the same where the second is the first of the rest
module _ (store : Store) (one : Pass) (rest : List Pass) (all : AreIdle store (one ∷ rest)) (two : Pass)
    (at : slice_get rest 0 ≡ Some two) where
  pub next_idle : IsIdle store two
  next_idle = all.idle 1 two at

  pub next_again : (new_one new_two : Pass) → IsIdle store new_one → IsIdle store new_two
      → new_one.seats.number ≡ one.seats.number → new_two.seats.number ≡ two.seats.number
      → AreIdle store (new_one ∷ slice_set rest 0 new_two)
  next_again new_one new_two one_idle two_idle one_number two_number = by_rest rest all at
    where
      by_rest : (l : List Pass) → AreIdle store (one ∷ l) → slice_get l 0 ≡ Some two
          → AreIdle store (new_one ∷ slice_set l 0 new_two)
      by_rest [] are there = cc
      by_rest (x ∷ xs) are there =
          both_idle store one two xs (subst (λ (p : Pass). AreIdle store (one ∷ p ∷ xs)) (same_pass x two there) are)
          new_one new_two one_idle two_idle one_number two_number
