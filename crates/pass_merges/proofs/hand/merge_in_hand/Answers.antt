use Rattle.std.proofs.Common.{◌≡◌, ◌∷◌, [], List, drop, length, sym, subst, arith}
use Rattle.pass_moves.specs.PassCellsDeclared.taken.TakenCell.{TakenCell}
use Rattle.pass_moves.specs.PassLeaves.Hand.{HoldsLeaves}
use Rattle.pass_moves.proofs.KeyLemmas.{take_front}
use Rattle.pass_merges.proofs.hand.merge_in_hand.Goals as goal

pub merge_both-requires-clause-holds : goal.merge_both-requires-clause-holds
merge_both-requires-clause-holds c =
    subst (λ (ts : List TakenCell). HoldsLeaves c.args.store.now c.args.pass.now
    (c.args.pair.left ∷ c.args.pair.right ∷ []) ts c.args.index.now)
    (sym c.as_mut_slice.ensures.value) c.requires.holds

pub returns-clause-holds : goal.returns-clause-holds
returns-clause-holds c =
    let new = c.merge_both.new.cells in
    let count : c.args.cells.now.len ≡ length new =
    omega (arith, c.args.cells.now.ok, c.merge_both.auto.cells, c.as_mut_slice.ensures) in
    subst (λ (ts : List TakenCell). HoldsLeaves c.args.store.now c.merge_both.new.pass
    (c.args.pair.left ∷ c.args.pair.right ∷ []) ts c.merge_both.new.index)
    (sym (take_front new (drop (length new) c.args.cells.now.items) c.args.cells.now.len count))
    c.merge_both.ensures.holds
