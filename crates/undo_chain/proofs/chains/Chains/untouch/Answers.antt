use Rattle.std.proofs.Common.{◌∙◌, sym, ap, arith, ◌≡◌, ◌+◌, [], length}
use Rattle.graph_model.specs.Conflict.{same_name}
use Rattle.undo_chain.specs.Records.{UndoRecord}
use Rattle.undo_chain.specs.Chains.{list_at}
use Rattle.undo_chain.proofs.ListLemmas.{at_link}
use Rattle.undo_chain.proofs.SiftLemmas.{filter_stays, filter_keeps, filter_drops, sift_keep, sift_room, length-upside_down, sift_drop, same_first}
use Rattle.undo_chain.proofs.chains.Chains.untouch.Goals as goal

pub returns-then-not-has_writer-clause-list : goal.returns-then-not-has_writer-clause-list
returns-then-not-has_writer-clause-list c =
    sym (filter_stays (λ u. same_name u.by c.args.by) _ (sym c.has_writer.ensures ∙ c.if-not-has_writer.true))

pub sift-preserved-then-eq : goal.sift-preserved-then-eq
sift-preserved-then-eq c =
    let same = same_first _ _ _ _ _ c.pop-rest.ensures.list c.record.ensures.list in
    let hit = ap (λ (u : UndoRecord). same_name u.by c.args.by) same ∙ sym c.eq.ensures ∙ c.if-eq.true in
    sift_drop _ _ _ _ _ _ _ _ c.sift.invariant c.in-Some.is _ _ c.pop-rest.ensures.list c.pop-rest.ensures.others (omega arith)
    (filter_drops (λ u. same_name u.by c.args.by) _ _ hit)

pub sift-preserved : goal.sift-preserved
sift-preserved c =
    sift_keep _ _ _ _ _ _ _ _ c.sift.invariant c.in-Some.is _ _ c.hand_over.ensures
    (λ u us at. filter_keeps (λ v. same_name v.by c.args.by) u us
    (ap (λ (v : UndoRecord). same_name v.by c.args.by) (same_first _ _ _ _ _ at (at_link c.sift.self c.sift.rest c.in-Some.key _ c.in-Some.is c.record.ensures.list)) ∙ sym c.eq.ensures ∙ c.if-eq.false))

pub returns-clause-freed : goal.returns-clause-freed
returns-clause-freed c =
    let all : c.sift.self.spare + length (list_at c.sift.self c.sift.kept) ≡ c.args.self.now.spare + length (list_at c.args.self.now c.args.head) = sift_room _ _ _ _ _ _ c.sift.invariant c.in_default.is in
    let turned : length (list_at c.pour.new.self c.pour.result) ≡ length (list_at c.sift.self c.sift.kept) + 0 = ap length c.pour.ensures.list ∙ length-upside_down _ [] in
    omega (arith, all, turned, c.pour.ensures.spare)
