use Rattle.std.proofs.Common.{◌≡◌, subst, Some}
use Rattle.undo_chain.specs.Chains.{ChainMap, record_at}
use Rattle.undo_chain.specs.Links.{AreLinked}
use Rattle.undo_chain.proofs.LinkLemmas.{list_step}
use Rattle.undo_chain.proofs.chains.Chains.record.Goals as goal

pub returns-clause-list : goal.returns-clause-list
returns-clause-list c =
    let is = subst (λ (m : ChainMap). AreLinked m.slots) c.self.view_is c.self.invariant in
    let at = subst (λ (m : ChainMap). record_at m.slots c.args.key ≡ Some c.get.result) c.self.view_is c.get.ensures in
    list_step c.args.self.now.slots is c.args.key c.get.result at

pub returns-clause-stamped : goal.returns-clause-stamped
returns-clause-stamped c =
    let is = subst (λ (m : ChainMap). AreLinked m.slots) c.self.view_is c.self.invariant in
    let at = subst (λ (m : ChainMap). record_at m.slots c.args.key ≡ Some c.get.result) c.self.view_is c.get.ensures in
    is.stamped c.args.key c.get.result at
