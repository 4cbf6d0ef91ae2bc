use Rattle.std.proofs.Common.{◌≡◌, ◌++◌, ◌∷◌, [], List, length, take, drop, sym, subst, arith}
use Rattle.pass_writes.specs.PassCellsDeclared.taken.TakenCell.{TakenCell}
use Rattle.pass_room.specs.Making.{HasLeavesInHand, state_after}
use Rattle.pass_writes.specs.PassSteps.Passes.{state_of}
use Rattle.pass_room.proofs.HandLemmas.{all_given, as_many, as_then, first_then}
use Rattle.pass_room.proofs.spread.try_spread.Goals as goal

pub put_back-requires : goal.put_back-requires
put_back-requires g c =
    let taken = c.take_leaf-leaf in
    let items = taken.new.own.cells.items in
    let us = c.spread_in_hand-spread.new.cells in
    let hand = c.spread_in_hand-spread.ensures.hand in
    let count : length us ≡ length items =
    as_many c.args.store.now taken.new.pass c.spread_in_hand-spread.new.pass (taken.result.leaf ∷ []) items us
    taken.result.index c.spread_in_hand-spread.new.index taken.ensures.hand.holds hand.holds in
    let all : take taken.new.own.cells.len (us ++ drop (length us) items) ≡ us =
    all_given items us taken.new.own.cells.len taken.new.own.cells.ok.0 count in
    record {
      hand = (
        taken.result.leaf ∷ [],
        omega arith,
        subst (λ (ts : List TakenCell). HasLeavesInHand c.args.store.now c.spread_in_hand-spread.new.pass
            (taken.result.leaf ∷ []) ts c.spread_in_hand-spread.new.index) (sym all) hand,
      );
    }

pub returns-clause-kept : goal.returns-clause-kept
returns-clause-kept g c =
    as_then c.args.pass.now c.spread_in_hand-spread.new.pass c.put_back.new.pass
    (state_after c.spread_in_hand-spread.result (state_of c.args.pass.now))
    (first_then c.spread_in_hand-spread.result c.args.pass.now c.take_leaf-leaf.new.pass
    c.spread_in_hand-spread.new.pass c.take_leaf-leaf.ensures.kept c.spread_in_hand-spread.ensures.kept)
    c.put_back.ensures.kept
