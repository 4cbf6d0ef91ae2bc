use Rattle.undo_chain.proofs.ListLemmas.{handed}
use Rattle.undo_chain.proofs.chains.Chains.hand_over.Goals as goal

pub returns : goal.returns
returns c =
    handed _ _ _ _ _ _ _ _ c.requires.onto c.requires.apart c.pop-undo.ensures.list c.pop-undo.ensures.others c.pop-undo.ensures.spare
    c.put-onto.ensures.list c.put-onto.ensures.others c.put-onto.ensures.spare
