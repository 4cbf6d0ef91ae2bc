use Rattle.std.proofs.Common.{◌≤◌, refl, subst, arith}
use Rattle.std.specs.Prelude.{count_by, is_some}
use Rattle.undo_chain.specs.declared.link.TheConstants.{MOST_RECORDS}
use Rattle.undo_chain.specs.Chains.{ChainMap}
use Rattle.undo_chain.specs.Links.{AreLinked}
use Rattle.undo_chain.proofs.CountLemmas.{lists_count}
use Rattle.undo_chain.proofs.chains.Chains.records_in_both.Goals as goal

pub overflow_add-result : goal.overflow_add-result
overflow_add-result c =
    let is = subst (λ (m : ChainMap). AreLinked m.slots) c.self.view_is c.self.invariant in
    let few = subst (λ (m : ChainMap). count_by is_some m.slots ≤ MOST_RECORDS) c.self.view_is c.keys_can_be_named.ensures.records in
    let bound = lists_count _ c.args.self.now is c.args.one c.args.other c.requires.one c.requires.other c.requires.apart refl in
    omega (arith, bound, few, c.records.ensures, c.records-2.ensures)
