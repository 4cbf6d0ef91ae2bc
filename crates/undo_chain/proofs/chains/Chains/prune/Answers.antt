use Rattle.std.proofs.Common.{◌∙◌, sym, ap, ◌≡◌, ◌+◌, [], length, arith}
use Rattle.undo_chain.specs.Records.{is_settled}
use Rattle.undo_chain.specs.Chains.{unlinked}
use Rattle.undo_chain.specs.Chains.{list_at}
use Rattle.undo_chain.proofs.ListLemmas.{at_link, settled_first, asked_on}
use Rattle.undo_chain.proofs.SiftLemmas.{front_stays, front_keeps, sift_keep, sift_room, length-upside_down, sift_cut, sift_cut_room, sift_rest, sift_done, same_first}
use Rattle.undo_chain.proofs.chains.Chains.prune.Goals as goal

pub returns-then-not-has_settled-clause-list : goal.returns-then-not-has_settled-clause-list
returns-then-not-has_settled-clause-list g c =
    sym (front_stays (is_settled (g.S.States.knowledge c.args.states.now).stamps c.args.horizon) _ (sym c.has_settled.ensures.settled ∙ c.if-not-has_settled.true))

pub keep-preserved : goal.keep-preserved
keep-preserved g c =
    let test = is_settled (g.S.States.knowledge c.has_settled.new.states).stamps c.args.horizon in
    let miss = sym (settled_first (g.S.States.knowledge c.has_settled.new.states) (g.S.States.knowledge c.keep.states) c.args.horizon (unlinked c.record-undo.result) _ c.keep.invariant.1.grows c.is_settled_by.ensures.settled) ∙ c.if-is_settled_by.false in
    let taken = at_link c.keep.self c.keep.rest c.in-Some.key _ c.in-Some.is c.hand_over.ensures.taken in (
      sift_keep _ _ _ _ _ _ _ _ c.keep.invariant.0 c.in-Some.is _ _ c.hand_over.ensures
          (λ u us at. front_keeps test u us (ap test (same_first _ _ _ _ _ at (at_link c.keep.self c.keep.rest c.in-Some.key _ c.in-Some.is c.record-undo.ensures.list)) ∙ miss)),
      asked_on _ _ _ _ _ _ _ c.keep.invariant.1 taken _ c.is_settled_by.ensures.grows,
    )

pub returns-then-is_settled_by-clause-others : goal.returns-then-is_settled_by-clause-others
returns-then-is_settled_by-clause-others g c =
    sift_done _ _ _ _ _ _ (sift_cut _ _ _ _ _ _ _ _ c.keep.invariant.0 c.in-Some.is c.clear.ensures.others (omega (arith, c.clear.ensures.spare))) c.pour.ensures.others

pub returns-clause-others : goal.returns-clause-others
returns-clause-others g c = sift_done _ _ _ _ _ _ (sift_rest _ _ _ _ _ _ c.keep.invariant.0 c.in_default.is) c.pour-2.ensures.others

pub returns-then-is_settled_by-clause-freed : goal.returns-then-is_settled_by-clause-freed
returns-then-is_settled_by-clause-freed g c =
    let all : c.clear.new.self.spare + length (list_at c.clear.new.self c.keep.kept) ≡ c.args.self.now.spare + length (list_at c.args.self.now c.args.head) = sift_cut_room _ _ _ _ _ _ _ _ c.keep.invariant.0 c.in-Some.is c.clear.ensures.others c.clear.ensures.spare in
    let turned : length (list_at c.pour.new.self c.pour.result) ≡ length (list_at c.clear.new.self c.keep.kept) + 0 = ap length c.pour.ensures.list ∙ length-upside_down _ [] in
    omega (arith, all, turned, c.pour.ensures.spare)

pub returns-clause-freed : goal.returns-clause-freed
returns-clause-freed g c =
    let all : c.keep.self.spare + length (list_at c.keep.self c.keep.kept) ≡ c.args.self.now.spare + length (list_at c.args.self.now c.args.head) = sift_room _ _ _ _ _ _ c.keep.invariant.0 c.in_default.is in
    let turned : length (list_at c.pour-2.new.self c.pour-2.result) ≡ length (list_at c.keep.self c.keep.kept) + 0 = ap length c.pour-2.ensures.list ∙ length-upside_down _ [] in
    omega (arith, all, turned, c.pour-2.ensures.spare)
