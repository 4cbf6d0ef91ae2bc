use Rattle.undo_chain.proofs.StampLemmas.{stamp_linked}
use Rattle.undo_chain.proofs.chains.Chains.set_stamp.Goals as goal

pub invariant_of-self : goal.invariant_of-self
invariant_of-self c = stamp_linked _ _ c.args.key c.args.stamp c.self.invariant c.set_stamp.ensures
