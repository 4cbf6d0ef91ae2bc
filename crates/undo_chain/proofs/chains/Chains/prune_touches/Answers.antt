use Rattle.std.proofs.Common.{◌∙◌, sym, ap, arith, ◌≡◌, ◌+◌, [], length}
use Rattle.undo_chain.specs.Records.{is_settled}
use Rattle.undo_chain.specs.Chains.{unlinked}
use Rattle.undo_chain.specs.Chains.{list_at}
use Rattle.undo_chain.proofs.ListLemmas.{at_link, settled_first, asked_on}
use Rattle.undo_chain.proofs.SiftLemmas.{filter_stays, filter_keeps, filter_drops, sift_keep, sift_room, length-upside_down, sift_drop, sift_rest, sift_done, same_first}
use Rattle.undo_chain.proofs.chains.Chains.prune_touches.Goals as goal

pub returns-then-not-has_settled-clause-list : goal.returns-then-not-has_settled-clause-list
returns-then-not-has_settled-clause-list g c =
    sym (filter_stays (is_settled (g.S.States.knowledge c.args.states.now).stamps c.args.horizon) _ (sym c.has_settled.ensures.settled ∙ c.if-not-has_settled.true))

pub sift-preserved-then-is_settled_by : goal.sift-preserved-then-is_settled_by
sift-preserved-then-is_settled_by g c =
    let test = is_settled (g.S.States.knowledge c.has_settled.new.states).stamps c.args.horizon in
    let same = same_first _ _ _ _ _ c.pop-rest.ensures.list c.record-undo.ensures.list in
    let hit = ap test same ∙ sym (settled_first (g.S.States.knowledge c.has_settled.new.states) (g.S.States.knowledge c.sift.states) c.args.horizon (unlinked c.record-undo.result) _ c.sift.invariant.1.grows c.is_settled_by.ensures.settled) ∙ c.if-is_settled_by.true in
    let taken = at_link c.sift.self c.sift.rest c.in-Some.key _ c.in-Some.is c.pop-rest.ensures.list in (
      sift_drop _ _ _ _ _ _ _ _ c.sift.invariant.0 c.in-Some.is _ _ c.pop-rest.ensures.list c.pop-rest.ensures.others (omega arith) (filter_drops test _ _ hit),
      asked_on _ _ _ _ _ _ _ c.sift.invariant.1 taken _ c.is_settled_by.ensures.grows,
    )

pub sift-preserved : goal.sift-preserved
sift-preserved g c =
    let test = is_settled (g.S.States.knowledge c.has_settled.new.states).stamps c.args.horizon in
    let miss = sym (settled_first (g.S.States.knowledge c.has_settled.new.states) (g.S.States.knowledge c.sift.states) c.args.horizon (unlinked c.record-undo.result) _ c.sift.invariant.1.grows c.is_settled_by.ensures.settled) ∙ c.if-is_settled_by.false in
    let taken = at_link c.sift.self c.sift.rest c.in-Some.key _ c.in-Some.is c.hand_over.ensures.taken in (
      sift_keep _ _ _ _ _ _ _ _ c.sift.invariant.0 c.in-Some.is _ _ c.hand_over.ensures
          (λ u us at. filter_keeps test u us (ap test (same_first _ _ _ _ _ at (at_link c.sift.self c.sift.rest c.in-Some.key _ c.in-Some.is c.record-undo.ensures.list)) ∙ miss)),
      asked_on _ _ _ _ _ _ _ c.sift.invariant.1 taken _ c.is_settled_by.ensures.grows,
    )

pub returns-clause-others : goal.returns-clause-others
returns-clause-others g c = sift_done _ _ _ _ _ _ (sift_rest _ _ _ _ _ _ c.sift.invariant.0 c.in_default.is) c.pour.ensures.others

pub returns-clause-freed : goal.returns-clause-freed
returns-clause-freed g c =
    let all : c.sift.self.spare + length (list_at c.sift.self c.sift.kept) ≡ c.args.self.now.spare + length (list_at c.args.self.now c.args.head) = sift_room _ _ _ _ _ _ c.sift.invariant.0 c.in_default.is in
    let turned : length (list_at c.pour.new.self c.pour.result) ≡ length (list_at c.sift.self c.sift.kept) + 0 = ap length c.pour.ensures.list ∙ length-upside_down _ [] in
    omega (arith, all, turned, c.pour.ensures.spare)
