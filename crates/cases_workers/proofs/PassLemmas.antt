-- Passes that leave the end of a list, and come back in their order.
use Rattle.std.proofs.Common.{◌≡◌, ℕ, ◌+◌, List, [], ◌∷◌, ◌++◌, length, inl, inr, ◌⊎◌, sym, ◌∙◌, ap, subst}
use Rattle.std.specs.Prelude.{◌<◌, None, Some, slice_get}
use Rattle.std.proofs.lemmas.List.{length-append}
use Rattle.graph_model.proofs.LegalLemmas.{get_front}
use Rattle.graph_model.proofs.PlaceLemmas.{get_end, get_snoc}
use Rattle.rebalance_service.specs.StoreRuleDeclared.store.Store.{Store}
use Rattle.rebalance_service.specs.SharedStoreDeclared.pass.Pass.{Pass}
use Rattle.rebalance_service.specs.SharedStore.Ends.{AreIdle}
use Rattle.rebalance_service.specs.SharedStore.Passes.{IsIdle, account_of}
use Rattle.rebalance_service.proofs.WorkerCalls.ReadyLemmas.{start_none}

-- none has a transaction, and they stand in the order of their numbers, from 0
pub record AreInOrder (store : Store) (list : List Pass) : Type 0 where
  pub idle : (p : ℕ) (pass : Pass) → slice_get list p ≡ Some pass → IsIdle store pass
  pub numbers : (p : ℕ) (pass : Pass) → slice_get list p ≡ Some pass → pass.seats.number ≡ p

-- the last one has left the list
pub record HasLeft (store : Store) (old new : List Pass) (pass : Pass) : Type 0 where
  pub rest : AreInOrder store new
  pub idle : IsIdle store pass
  pub number : pass.seats.number ≡ length new
  pub count : length old ≡ length new + 1

module _ (store : Store) where
  pub in_order : (list : List Pass) → AreIdle store list → AreInOrder store list
  in_order list all = record { idle = all.idle; numbers = all.numbers }

  -- so many passes are all of them
  pub all_idle : (list : List Pass) → length list ≡ store.accounts.config.passes → AreInOrder store list
      → AreIdle store list
  all_idle list count are = record { count = count; idle = are.idle; numbers = are.numbers }

  pub has_left : (old new : List Pass) (pass : Pass) → old ≡ new ++ pass ∷ [] → AreInOrder store old
      → HasLeft store old new pass
  has_left old new pass is all =
      let are = subst (AreInOrder store) is all in record {
        rest = record {
          idle = λ p x at. are.idle p x (get_front new (pass ∷ []) p x at);
          numbers = λ p x at. are.numbers p x (get_front new (pass ∷ []) p x at);
        };
        idle = are.idle (length new) pass (get_end new pass);
        number = are.numbers (length new) pass (get_end new pass);
        count = ap length is ∙ length-append new (pass ∷ []);
      }

  pub comes_back : (old new : List Pass) (pass : Pass) → new ≡ old ++ pass ∷ [] → AreInOrder store old
      → IsIdle store pass → pass.seats.number ≡ length old → AreInOrder store new
  comes_back old new pass is are idle number = subst (AreInOrder store) (sym is) (record {
    idle = λ p x at. idle_at p x (get_snoc old pass p x at);
    numbers = λ p x at. number_at p x (get_snoc old pass p x at);
  })
    where
      idle_at : (p : ℕ) (x : Pass)
          → ((p < length old) × (slice_get old p ≡ Some x)) ⊎ ((p ≡ length old) × (pass ≡ x)) → IsIdle store x
      idle_at p x (inl there) = are.idle p x there.1
      idle_at p x (inr here) = subst (IsIdle store) here.1 idle

      number_at : (p : ℕ) (x : Pass)
          → ((p < length old) × (slice_get old p ≡ Some x)) ⊎ ((p ≡ length old) × (pass ≡ x)) → x.seats.number ≡ p
      number_at p x (inl there) = are.numbers p x there.1
      number_at p x (inr here) =
          subst (λ (y : Pass). y.seats.number ≡ p) here.1 (number ∙ sym here.0)

  -- the worker of a pass without a transaction has none
  pub new_closed : (taken made : Pass) → IsIdle store taken → made ≡ taken → (account_of store made).start ≡ None
  new_closed taken made idle is = ap (λ (p : Pass). (account_of store p).start) is ∙ start_none store taken idle

  -- three passes that have left a list, the last one first
  pub record ThreeLeft (all two one none : List Pass) (third second first : Pass) : Type 0 where
    pub last : HasLeft store all two third
    pub middle : HasLeft store two one second
    pub front : HasLeft store one none first

  pub three_left : (all two one none : List Pass) (third second first : Pass) → AreIdle store all
      → all ≡ two ++ third ∷ [] → two ≡ one ++ second ∷ [] → one ≡ none ++ first ∷ []
      → ThreeLeft all two one none third second first
  three_left all two one none third second first idle last middle front =
      let a = has_left all two third last (in_order all idle) in
      let b = has_left two one second middle a.rest in
      record { last = a; middle = b; front = has_left one none first front b.rest }

-- what comes back is the pass that left, by its number
pub same_number : (taken made ended back : Pass) → made ≡ taken → ended.seats.number ≡ made.seats.number
    → back ≡ ended → back.seats.number ≡ taken.seats.number
same_number taken made ended back is kept same =
    ap (λ (p : Pass). p.seats.number) same ∙ kept ∙ ap (λ (p : Pass). p.seats.number) is

-- a list to which one is added
pub one_more : (old new : List Pass) (pass : Pass) → new ≡ old ++ pass ∷ [] → length new ≡ length old + 1
one_more old new pass is = ap length is ∙ length-append old (pass ∷ [])
