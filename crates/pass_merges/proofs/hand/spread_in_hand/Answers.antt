use Rattle.std.proofs.Common.{◌≡◌, ◌∷◌, [], List, drop, length, sym, subst, arith}
use Rattle.pass_moves.specs.LeafArray.Segments.{counts_of}
use Rattle.pass_moves.specs.LeafStore.Merging.{IsLeftmostWindow}
use Rattle.pass_moves.specs.PassCellsDeclared.taken.TakenCell.{TakenCell}
use Rattle.pass_moves.specs.PassLeaves.Hand.{HoldsLeaves}
use Rattle.pass_moves.specs.Moving.{values_of}
use Rattle.pass_moves.proofs.KeyLemmas.{take_front}
use Rattle.pass_merges.proofs.hand.spread_in_hand.Goals as goal

pub spread_leaf-requires-clause-holds : goal.spread_leaf-requires-clause-holds
spread_leaf-requires-clause-holds c =
    subst (λ (ts : List TakenCell). HoldsLeaves c.args.store.now c.args.pass.now (c.args.leaf ∷ []) ts c.args.index.now)
    (sym c.as_mut_slice.ensures.value) c.requires.holds

pub spread_leaf-requires-clause-window : goal.spread_leaf-requires-clause-window
spread_leaf-requires-clause-window c =
    subst (λ (ts : List TakenCell). IsLeftmostWindow (counts_of (values_of ts)) c.args.window)
    (sym c.as_mut_slice.ensures.value) c.requires.window

pub returns-clause-holds : goal.returns-clause-holds
returns-clause-holds c =
    let new = c.spread_leaf.new.cells in
    let count : c.args.cells.now.len ≡ length new =
    omega (arith, c.args.cells.now.ok, c.spread_leaf.auto.cells, c.as_mut_slice.ensures) in
    subst (λ (ts : List TakenCell). HoldsLeaves c.args.store.now c.spread_leaf.new.pass (c.args.leaf ∷ []) ts
    c.spread_leaf.new.index)
    (sym (take_front new (drop (length new) c.args.cells.now.items) c.args.cells.now.len count))
    c.spread_leaf.ensures.holds
