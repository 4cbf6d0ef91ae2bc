use Rattle.std.proofs.Common.{◌≡◌, ◌≢◌, ℕ, subst, Some}
use Rattle.undo_chain.specs.Chains.{ChainMap, record_at}
use Rattle.undo_chain.specs.Links.{AreLinked}
use Rattle.undo_chain.proofs.ChainLemmas.{pop_linked, pop_list, pop_others}
use Rattle.undo_chain.proofs.chains.Chains.pop.Goals as goal

pub invariant_of-self : goal.invariant_of-self
invariant_of-self c =
    let is = subst (λ (m : ChainMap). AreLinked m.slots) c.self.view_is c.self.invariant in
    let was = subst (λ (m : ChainMap). record_at m.slots c.args.head ≡ Some c.remove.result) c.self.view_is c.remove.ensures.was in
    let agree = subst (λ (m : ChainMap). (k : ℕ) → k ≢ c.args.head → record_at c.remove.new.self.slots k ≡ record_at m.slots k) c.self.view_is c.remove.ensures.others in
    pop_linked c.args.self.now (record { slots = c.remove.new.self.slots; spare = 0 }) c.args.head c.remove.result is c.requires was c.remove.ensures.gone agree

pub returns-clause-list : goal.returns-clause-list
returns-clause-list c =
    let is = subst (λ (m : ChainMap). AreLinked m.slots) c.self.view_is c.self.invariant in
    let was = subst (λ (m : ChainMap). record_at m.slots c.args.head ≡ Some c.remove.result) c.self.view_is c.remove.ensures.was in
    let agree = subst (λ (m : ChainMap). (k : ℕ) → k ≢ c.args.head → record_at c.remove.new.self.slots k ≡ record_at m.slots k) c.self.view_is c.remove.ensures.others in
    pop_list c.args.self.now (record { slots = c.remove.new.self.slots; spare = 0 }) c.args.head c.remove.result is c.requires was c.remove.ensures.gone agree

pub returns-clause-others : goal.returns-clause-others
returns-clause-others c =
    let is = subst (λ (m : ChainMap). AreLinked m.slots) c.self.view_is c.self.invariant in
    let was = subst (λ (m : ChainMap). record_at m.slots c.args.head ≡ Some c.remove.result) c.self.view_is c.remove.ensures.was in
    let agree = subst (λ (m : ChainMap). (k : ℕ) → k ≢ c.args.head → record_at c.remove.new.self.slots k ≡ record_at m.slots k) c.self.view_is c.remove.ensures.others in
    pop_others _ _ c.args.head c.remove.result is c.requires was c.remove.ensures.gone agree
