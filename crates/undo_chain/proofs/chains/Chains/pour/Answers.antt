use Rattle.std.proofs.Common.{◌∙◌, sym, ap, subst, ℕ}
use Rattle.std.specs.Prelude.{Option}
use Rattle.undo_chain.specs.Records.{upside_down}
use Rattle.undo_chain.specs.Chains.{ChangesTwoLists, list_at}
use Rattle.undo_chain.proofs.ListLemmas.{two_chain, at_link}
use Rattle.undo_chain.proofs.chains.Chains.pour.Goals as goal

pub hand-preserved : goal.hand-preserved
hand-preserved c =
    let so_far = subst (λ (q : Option ℕ). ChangesTwoLists c.args.self.now c.hand.self c.args.from c.args.onto q c.hand.onto) c.in-Some.is c.hand.invariant.0 in
    let taken = at_link c.hand.self c.hand.from _ _ c.in-Some.is c.hand_over.ensures.taken in (
      two_chain _ _ _ _ _ _ _ _ _ so_far c.hand_over.ensures.lists,
      ap (upside_down (list_at c.hand_over.new.self c.hand_over.result.0)) c.hand_over.ensures.given
          ∙ sym (ap (λ us. upside_down us (list_at c.hand.self c.hand.onto)) taken) ∙ c.hand.invariant.1,
      c.hand_over.ensures.room ∙ c.hand.invariant.2,
    )
