use Rattle.std.proofs.Common.{◌≡◌, ◌++◌, ◌∷◌, [], List, length, take, drop, sym, subst, arith}
use Rattle.pass_writes.specs.PassCellsDeclared.taken.TakenCell.{TakenCell}
use Rattle.pass_room.specs.Making.{HasLeavesInHand}
use Rattle.pass_room.proofs.HandLemmas.{all_given, as_many, states_then}
use Rattle.pass_room.proofs.split.try_split.Goals as goal

pub put_back-requires : goal.put_back-requires
put_back-requires g c =
    let items = c.take_both.new.own.cells.items in
    let us = c.split_in_hand-made.new.cells in
    let hand = c.split_in_hand-made.ensures.hand in
    let count : length us ≡ length items =
    as_many c.args.store.now c.take_both.new.pass c.split_in_hand-made.new.pass (c.args.leaf ∷ c.args.free ∷ []) items us
    c.in-Some.index c.split_in_hand-made.new.index c.in-Some.ensures.hand.0.holds hand.holds in
    let all : take c.take_both.new.own.cells.len (us ++ drop (length us) items) ≡ us =
    all_given items us c.take_both.new.own.cells.len c.take_both.new.own.cells.ok.0 count in
    record {
      hand = (
        c.args.leaf ∷ c.args.free ∷ [],
        omega arith,
        subst (λ (ts : List TakenCell). HasLeavesInHand c.args.store.now c.split_in_hand-made.new.pass
            (c.args.leaf ∷ c.args.free ∷ []) ts c.split_in_hand-made.new.index) (sym all) hand,
      );
    }

pub returns-clause-kept : goal.returns-clause-kept
returns-clause-kept g c =
    states_then c.args.pass.now c.split_in_hand-made.new.pass c.put_back.new.pass
    (states_then c.args.pass.now c.take_both.new.pass c.split_in_hand-made.new.pass c.take_both.ensures.kept
    c.split_in_hand-made.ensures.kept)
    c.put_back.ensures.kept
