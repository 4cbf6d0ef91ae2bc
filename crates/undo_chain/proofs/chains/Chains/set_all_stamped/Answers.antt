use Rattle.std.proofs.Common.{subst, sym}
use Rattle.std.specs.Prelude.{IsSomeAnd, IsSome}
use Rattle.undo_chain.specs.Chains.{ChainMap, record_at}
use Rattle.undo_chain.specs.Links.{AreLinked}
use Rattle.undo_chain.proofs.StampLemmas.{key_stamped, mark_linked, mark_keeps}
use Rattle.undo_chain.proofs.chains.Chains.set_all_stamped.Goals as goal

pub set_all_stamped-requires : goal.set_all_stamped-requires
set_all_stamped-requires c =
    let is = subst (λ (m : ChainMap). AreLinked m.slots) c.self.view_is c.self.invariant in
    subst (λ (m : ChainMap). IsSomeAnd (record_at m.slots c.args.key) (λ u. IsSome u.stamp)) (sym c.self.view_is) (key_stamped c.args.self.now c.args.key is c.requires.there c.requires.stamped)

pub invariant_of-self : goal.invariant_of-self
invariant_of-self c =
    mark_linked _ _ c.args.key c.self.invariant c.set_all_stamped.ensures (rw (← c.self.view_is) at c.requires.stamped)

pub returns : goal.returns
returns c = rw (← c.self.view_is) (mark_keeps _ _ c.args.key c.self.invariant c.set_all_stamped.ensures)
