-- What a pass may note of those whom its write meets.
use Rattle.std.proofs.Common.{◌≡◌, inl, inr, ℕ, suc, ◌+◌, ◌-◌, ◌<◌, List, [], ◌∷◌, refl, sym, ◌∙◌, ap, subst, arith}
use Rattle.std.specs.Prelude.{Bool, true, false, ◌==◌, ◌&&◌, Some, slice_get}
use Rattle.std.specs.List.{list_any}
use Rattle.std.specs.declared.alloc.Global.{Global}
use Rattle.atomic_table.specs.Table.{Me}
use Rattle.graph_model.specs.declared.journal.TxnName.{TxnName}
use Rattle.graph_model.specs.declared.write.Write.{Write}
use Rattle.graph_model.specs.Account.{Sighting}
use Rattle.graph_model.specs.Conflict.{same_name}
use Rattle.graph_model.proofs.TestLemmas.{both_of, either_of, eq_of, name_eq}
use Rattle.graph_model.specs.Transactions.{reached, stamp_in}
use Rattle.txn_manager.specs.declared.config.Config.{Config}
use Rattle.store_rule.specs.StoreRelation.Passes.{PassState}
use Rattle.store_rule.specs.StoreRelation.Steps.{meeting, sighting, with_holder, with_meeting}
use Rattle.store_rule.specs.StoreRelation.Words.{Look, has_word}
use Rattle.store_rule.specs.RuleModel.Places.{Layout}
use Rattle.store_rule.specs.RuleModel.Sight.{HasPass, Sight, with_pass}
use Rattle.store_rule.specs.RuleModel.Steps.{AllowsLoad, Nothing}
use Rattle.store_rule.proofs.RuleModel.NoteStepLemmas.{holder_is_answered, holder_is_found, look_is_met, stamp_is_met}
use Rattle.pass_steps.specs.Notes.{MeetsHolder, MeetsLater, named_in}

-- one of a list that passes a test
pub any_at : {X : Type 0} (test : X → Bool) (xs : List X) → list_any test xs ≡ true
    → (i : ℕ) × (x : X) × (slice_get xs i ≡ Some x) × (test x ≡ true)
any_at {X = X} test [] h = cc
any_at {X = X} test (x ∷ xs) h = elim (either_of (test x) (list_any test xs) h)
    as (λ _. (i : ℕ) × (y : X) × (slice_get (x ∷ xs) i ≡ Some y) × (test y ≡ true)) [
      | inl e ↦ (0, x, refl, e)
      | inr e ↦ let r = any_at test xs e in (suc r.0, r.1, r.2, r.3)
    ]

-- the look that has found a word
pub word_at : (ls : List Look) (by : TxnName) (word : ℕ) → has_word ls by word ≡ true
    → (i : ℕ) × (l : Look) × (slice_get ls i ≡ Some l) × (l.by ≡ by) × (l.word ≡ word)
word_at ls by word h =
    let found = any_at (λ (l : Look). same_name l.by by && (l.word == word)) ls h in
    let both = both_of (same_name found.1.by by) (found.1.word == word) found.3 in
    (found.0, found.1, found.2, name_eq found.1.by by both.0, eq_of found.1.word word both.1)

module _ (z : Config) (at : Layout) (heap : Global) (slots id : ℕ) (me : Me (Unit {0}) Sight) (p : ℕ)
    (st : PassState) (w : Write) where
  pub later_may_be_noted : (stamp : ℕ) → HasPass me.0 p st → MeetsLater z me.0 st w stamp
      → AllowsLoad z at heap slots id me at.clock
      (λ _. with_pass me.0 p (with_meeting st (meeting w (stamp - 1)))) Nothing
  later_may_be_noted stamp has meets = elim meets.found
      as (λ _. AllowsLoad z at heap slots id me at.clock
      (λ _. with_pass me.0 p (with_meeting st (meeting w (stamp - 1)))) Nothing) [
        | inl stamped ↦
            stamp_is_met z at heap slots id me p st w meets.stamped stamp has meets.looks stamped
        | inr found ↦
            let l = word_at st.looks meets.stamped.by (stamp + 2) found.1 in
            let some : 0 < stamp = found.2 in
            let up : 2 < stamp + 2 = omega (arith, some) in
            let place : stamp + 2 - 3 ≡ stamp - 1 = omega (arith, some) in
            subst (λ k. AllowsLoad z at heap slots id me at.clock
            (λ _. with_pass me.0 p (with_meeting st (meeting w k))) Nothing)
            (ap (λ k. k - 3) l.4 ∙ place)
            (look_is_met z at heap slots id me p st w meets.stamped l.0 l.1 has meets.looks l.2 l.3
            (subst (λ k. 2 < k) (sym l.4) up))
      ]

  pub holder_may_be_found : (by : TxnName) → HasPass me.0 p st → MeetsHolder z me.0 st w by
      → AllowsLoad z at heap slots id me at.clock
      (λ _. with_pass me.0 p (with_holder st (sighting by w st.start))) Nothing
  holder_may_be_found by has meets =
      subst (λ n. AllowsLoad z at heap slots id me at.clock
      (λ _. with_pass me.0 p (with_holder st (sighting n w st.start))) Nothing) meets.writer
      (holder_is_found z at heap slots id me p st w meets.stamped has meets.looks
      (subst (λ n. reached (stamp_in st.seen n) st.start ≡ false) (sym meets.writer) meets.unseen))

  pub holder_may_be_named : (x : Sighting) (rest : List Sighting) → HasPass me.0 p st → st.holders ≡ x ∷ rest
      → AllowsLoad z at heap slots id me at.clock
      (λ _. with_pass me.0 p (named_in st (slice_get st.holders 0))) Nothing
  holder_may_be_named x rest has first =
      let there : slice_get st.holders 0 ≡ Some x = ap (λ l. slice_get l 0) first in
      subst (λ o. AllowsLoad z at heap slots id me at.clock (λ _. with_pass me.0 p (named_in st o)) Nothing)
      (sym there) (holder_is_answered z at heap slots id me p st 0 x has there)
