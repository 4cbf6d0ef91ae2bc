use Rattle.std.proofs.Common.{◌∙◌, [], sym, ap, arith}
use Rattle.undo_chain.specs.Records.{upside_down}
use Rattle.undo_chain.specs.Chains.{list_at}
use Rattle.undo_chain.proofs.ListLemmas.{none_left, twice_upside_down}
use Rattle.undo_chain.proofs.SiftLemmas.{move_on}
use Rattle.undo_chain.proofs.chains.Chains.move_to.Goals as goal

pub move_all-preserved : goal.move_all-preserved
move_all-preserved c =
    move_on _ _ _ _ _ _ _ _ _ _ c.move_all.invariant c.in-Some.is _ _ _ c.pop-undo.ensures.list c.pop-undo.ensures.others (omega arith) c.put.ensures.list c.put.ensures.others c.put.ensures.spare

pub returns-clause-list : goal.returns-clause-list
returns-clause-list c =
    let all = sym (ap (λ us. upside_down us (list_at c.move_all.to c.move_all.moved)) (none_left c.move_all.self c.move_all.rest c.in_default.is)) ∙ c.move_all.invariant.same in
    c.pour.ensures.list ∙ ap (λ us. upside_down us []) all ∙ twice_upside_down _ []
