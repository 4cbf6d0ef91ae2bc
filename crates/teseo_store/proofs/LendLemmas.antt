-- Passes that leave the end of a list, and come back in their order.
use Rattle.std.proofs.Common.{◌≡◌, ℕ, ◌+◌, List, [], ◌∷◌, ◌++◌, length, inl, inr, ◌⊎◌, sym, ◌∙◌, ap, subst}
use Rattle.std.specs.Prelude.{◌<◌, None, Some, Option, slice_get}
use Rattle.std.proofs.lemmas.List.{length-append}
use Rattle.graph_model.proofs.LegalLemmas.{get_front}
use Rattle.graph_model.proofs.PlaceLemmas.{get_end, get_snoc}
use Rattle.rebalance_service.specs.StoreRuleDeclared.store.Store.{Store}
use Rattle.rebalance_service.specs.SharedStoreDeclared.pass.Pass.{Pass}
use Rattle.rebalance_service.specs.SharedStore.Ends.{AreIdle}
use Rattle.rebalance_service.specs.SharedStore.Passes.{IsIdle, account_of}
use Rattle.rebalance_service.specs.WorkerCalls.Ready.{IsReady}
use Rattle.rebalance_service.proofs.WorkerCalls.ReadyLemmas.{idle_here, start_none}
use Rattle.sessions.specs.Sessions.{HasNone}
use Rattle.graph_model.specs.Account.{Account}
use Rattle.teseo_store.specs.Lending.{AreInOrder, Doing, IsDoneInSlot, IsLentBack}

-- the last one has left the list
pub record HasLeft (store : Store) (old new : List Pass) (pass : Pass) : Type 0 where
  pub rest : AreInOrder store new
  pub idle : IsIdle store pass
  pub number : pass.seats.number ≡ length new
  pub count : length old ≡ length new + 1

module _ (store : Store) where
  pub in_order : (list : List Pass) → AreIdle store list → AreInOrder store list
  in_order list all = record { idle = all.idle; numbers = all.numbers }

  -- so many passes are all of them
  pub all_idle : (list : List Pass) → length list ≡ store.accounts.config.passes → AreInOrder store list
      → AreIdle store list
  all_idle list count are = record { count = count; idle = are.idle; numbers = are.numbers }

  pub has_left : (old new : List Pass) (pass : Pass) → old ≡ new ++ pass ∷ [] → AreInOrder store old
      → HasLeft store old new pass
  has_left old new pass is all =
      let are = subst (AreInOrder store) is all in record {
        rest = record {
          idle = λ p x at. are.idle p x (get_front new (pass ∷ []) p x at);
          numbers = λ p x at. are.numbers p x (get_front new (pass ∷ []) p x at);
        };
        idle = are.idle (length new) pass (get_end new pass);
        number = are.numbers (length new) pass (get_end new pass);
        count = ap length is ∙ length-append new (pass ∷ []);
      }

  pub comes_back : (old new : List Pass) (pass : Pass) → new ≡ old ++ pass ∷ [] → AreInOrder store old
      → IsIdle store pass → pass.seats.number ≡ length old → AreInOrder store new
  comes_back old new pass is are idle number = subst (AreInOrder store) (sym is) (record {
    idle = λ p x at. idle_at p x (get_snoc old pass p x at);
    numbers = λ p x at. number_at p x (get_snoc old pass p x at);
  })
    where
      idle_at : (p : ℕ) (x : Pass)
          → ((p < length old) × (slice_get old p ≡ Some x)) ⊎ ((p ≡ length old) × (pass ≡ x)) → IsIdle store x
      idle_at p x (inl there) = are.idle p x there.1
      idle_at p x (inr here) = subst (IsIdle store) here.1 idle

      number_at : (p : ℕ) (x : Pass)
          → ((p < length old) × (slice_get old p ≡ Some x)) ⊎ ((p ≡ length old) × (pass ≡ x)) → x.seats.number ≡ p
      number_at p x (inl there) = are.numbers p x there.1
      number_at p x (inr here) =
          subst (λ (y : Pass). y.seats.number ≡ p) here.1 (number ∙ sym here.0)

-- a list to which one is added
pub one_more : (old new : List Pass) (pass : Pass) → new ≡ old ++ pass ∷ [] → length new ≡ length old + 1
one_more old new pass is = ap length is ∙ length-append old (pass ∷ [])

-- ---- a pass as a session

-- the account of a pass that is lent has no transaction
pub lent_none : (store there : Store) (pass lent : Pass) (number : ℕ) → number ≡ pass.seats.number → IsIdle store pass
    → there ≡ store → lent ≡ pass → HasNone number (account_of there lent)
lent_none store there pass lent number same idle home is =
    subst (λ (u : Store × Pass). HasNone number (account_of u.0 u.1)) (λ i. (sym home i, sym is i)) (record {
      valid = idle.valid;
      none = start_none store pass idle;
      numbered = sym same;
    })

-- what comes back is idle, and has the number
pub back_idle : (home : Option Store) (store there : Store) (number : ℕ) (lent back : Pass) → home ≡ Some store
    → home ≡ Some there → HasNone number (account_of there lent) → back ≡ lent → IsReady there back
    → IsIdle store back × (back.seats.number ≡ number)
back_idle home store there number lent back mine its none is ready =
    let same : there ≡ store = of_some there store (sym its ∙ mine) in
    let has : HasNone number (account_of there back) = subst (λ (p : Pass). HasNone number (account_of there p)) (sym is) none in
    (subst (λ s. IsIdle s back) same (idle_here there back ready has.none), has.numbered)
  where
    of_some : (a b : Store) → ◌≡◌ {A = Option Store} (Some a) (Some b) → a ≡ b
    of_some a b e = cc

-- ---- what works do

module _ {W : Type 0} (did : Doing W) (store : Store) (old new : W) where
  -- what is done to the account of a session is done to that of its pass
  pub done_to : (a b x y : Account) → a ≡ x → b ≡ y → did old a new b → did old x new y
  done_to a b x y from to done = subst (λ u. did old x new u) to (subst (λ u. did old u new b) from done)

  -- what has come back lies in the slot
  pub back_in_slot : (after : Option Pass) (pass back : Pass) → after ≡ Some back
      → IsDoneInSlot did store old new (Some pass) after → IsLentBack did store old new pass back
  back_in_slot after pass back is done = subst (λ s. IsDoneInSlot did store old new (Some pass) s) is done

-- ---- the last pass is lent, and is put back

-- what is known where the last pass has left the list and has come back to its end
pub record IsBack (store : Store) (list new : List Pass) : Type 0 where
  pub order : AreInOrder store new
  pub count : length new ≡ length list

pub is_back : (store : Store) (list rest after new : List Pass) (pass back : Pass) → AreInOrder store list
    → list ≡ rest ++ pass ∷ [] → new ≡ after ++ back ∷ [] → AreInOrder store after → length after ≡ length rest
    → IsIdle store back → back.seats.number ≡ pass.seats.number → IsBack store list new
is_back store list rest after new pass back are was is still same idle number =
    let left = has_left store list rest pass was are in record {
      order = comes_back store after new back is still idle (number ∙ left.number ∙ sym same);
      count = one_more after new back is ∙ ap (λ n. n + 1) same ∙ sym left.count;
    }

pub lies_idle : (store : Store) (list rest : List Pass) (pass : Pass) → AreInOrder store list
    → list ≡ rest ++ pass ∷ [] → IsIdle store pass
lies_idle store list rest pass are was = (has_left store list rest pass was are).idle

pub lies_order : (store : Store) (list rest : List Pass) (pass : Pass) → AreInOrder store list
    → list ≡ rest ++ pass ∷ [] → AreInOrder store rest
lies_order store list rest pass are was = (has_left store list rest pass was are).rest
