use Rattle.std.proofs.Common.{refl, subst, sym, ◌∙◌, None}
use Rattle.undo_chain.specs.Chains.{ChainMap}
use Rattle.undo_chain.specs.Links.{AreLinked}
use Rattle.undo_chain.proofs.StampLemmas.{stamp_start, stamp_link, stamp_smaller, stamp_on, stamp_skip, stamp_list, stamp_others, stamp_rest, stamped_at}
use Rattle.undo_chain.proofs.chains.Chains.stamp_records.Goals as goal

pub stamp_all-init : goal.stamp_all-init
stamp_all-init c =
    let is = subst (λ (m : ChainMap). AreLinked m.slots) c.self.view_is c.self.invariant in
    stamp_start _ _ _ _ is c.requires

pub record-undo-requires : goal.record-undo-requires
record-undo-requires c = stamp_link _ _ _ _ _ _ _ c.stamp_all.invariant c.in-Some.is

pub stamp_all-smaller-then-is_to_stamp : goal.stamp_all-smaller-then-is_to_stamp
stamp_all-smaller-then-is_to_stamp c = stamp_smaller _ _ _ _ _ _ _ _ c.stamp_all.invariant c.in-Some.is c.record-undo.ensures.record

pub stamp_all-smaller : goal.stamp_all-smaller
stamp_all-smaller c = stamp_smaller _ _ _ _ _ _ _ _ c.stamp_all.invariant c.in-Some.is c.record-undo.ensures.record

pub stamp_all-preserved-then-is_to_stamp : goal.stamp_all-preserved-then-is_to_stamp
stamp_all-preserved-then-is_to_stamp c = stamp_on _ _ _ _ _ _ _ _ c.stamp_all.invariant c.in-Some.is c.record-undo.ensures.record _ (sym c.is_to_stamp.ensures ∙ c.if-is_to_stamp.true) c.set_stamp.ensures

pub stamp_all-preserved : goal.stamp_all-preserved
stamp_all-preserved c = stamp_skip _ _ _ _ _ _ _ _ c.stamp_all.invariant c.in-Some.is c.record-undo.ensures.record (sym c.is_to_stamp.ensures ∙ c.if-is_to_stamp.false)

pub returns-clause-list : goal.returns-clause-list
returns-clause-list c = stamp_list _ _ _ _ _ _ c.stamp_all.invariant c.in_default.is

pub returns-clause-others : goal.returns-clause-others
returns-clause-others c =
    let is = subst (λ (m : ChainMap). AreLinked m.slots) c.self.view_is c.self.invariant in
    stamp_others _ _ _ _ _ _ c.stamp_all.invariant c.in_default.is is c.requires

pub returns-then-undo-clause-list : goal.returns-then-undo-clause-list
returns-then-undo-clause-list c =
    let none = stamped_at c.stamp_all.self c.stamp_all.link c.in-Some.key c.in-Some.is (c.record-undo.ensures.stamped c.if-undo.true) in
    stamp_list _ _ _ _ _ None (stamp_rest _ _ _ _ _ _ c.stamp_all.invariant none) refl

pub returns-then-undo-clause-others : goal.returns-then-undo-clause-others
returns-then-undo-clause-others c =
    let is = subst (λ (m : ChainMap). AreLinked m.slots) c.self.view_is c.self.invariant in
    let none = stamped_at c.stamp_all.self c.stamp_all.link c.in-Some.key c.in-Some.is (c.record-undo.ensures.stamped c.if-undo.true) in
    stamp_others _ _ _ _ _ None (stamp_rest _ _ _ _ _ _ c.stamp_all.invariant none) refl is c.requires
