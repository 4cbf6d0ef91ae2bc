use Rattle.undo_chain.proofs.ListLemmas.{one_from}
use Rattle.undo_chain.proofs.chains.Chains.push.Goals as goal

pub returns-clause-others : goal.returns-clause-others
returns-clause-others c = one_from _ _ _ _ _ c.in_ok-reserve.ensures.kept c.put.ensures.others
