use Rattle.std.proofs.Common.{◌∷◌, [], subst}
use Rattle.pass_splits.specs.PassMoves.Moving.{values_of}
use Rattle.pass_splits.specs.Splitting.{IsSplit}
use Rattle.pass_room.proofs.HandLemmas.{goes_on}
use Rattle.pass_writes.proofs.HandLemmas.{keeps_state}
use Rattle.pass_room.proofs.split.split_in_hand.Goals as goal

pub split_free-requires-clause-holds : goal.split_free-requires-clause-holds
split_free-requires-clause-holds c = (c.args.leaf, c.requires.hand.holds, c.requires.key)

pub returns-in_err-split_free-clause-hand : goal.returns-in_err-split_free-clause-hand
returns-in_err-split_free-clause-hand c =
    goes_on c.args.store.now c.args.pass.now c.split_free.new.pass c.split_free.ensures.kept
    (c.args.leaf ∷ c.args.free ∷ []) c.args.cells.now c.split_free.new.cells c.args.index.now c.split_free.new.index
    c.requires.hand (c.split_free.ensures.holds (c.args.leaf ∷ c.args.free ∷ []) c.requires.hand.holds)

pub returns-in_err-split_free-clause-kept : goal.returns-in_err-split_free-clause-kept
returns-in_err-split_free-clause-kept c =
    keeps_state c.args.store.now c.args.pass.now c.split_free.new.pass c.split_free.ensures.kept

pub at-requires : goal.at-requires
at-requires c = (
  c.args.leaf ∷ c.args.free ∷ [],
  c.split_free.ensures.holds (c.args.leaf ∷ c.args.free ∷ []) c.requires.hand.holds,
  subst (IsSplit c.args.key c.args.need (values_of c.split_free.new.cells)) c.in-Done.is c.in_ok-split_free.ensures.room,
)

pub returns-in-Done-clause-hand : goal.returns-in-Done-clause-hand
returns-in-Done-clause-hand c =
    goes_on c.args.store.now c.args.pass.now c.split_free.new.pass c.split_free.ensures.kept
    (c.args.leaf ∷ c.args.free ∷ []) c.args.cells.now c.split_free.new.cells c.args.index.now c.split_free.new.index
    c.requires.hand (c.split_free.ensures.holds (c.args.leaf ∷ c.args.free ∷ []) c.requires.hand.holds)

pub returns-in-Done-clause-kept : goal.returns-in-Done-clause-kept
returns-in-Done-clause-kept c =
    keeps_state c.args.store.now c.args.pass.now c.split_free.new.pass c.split_free.ensures.kept

pub returns-in-Other-clause-hand : goal.returns-in-Other-clause-hand
returns-in-Other-clause-hand c =
    goes_on c.args.store.now c.args.pass.now c.split_free.new.pass c.split_free.ensures.kept
    (c.args.leaf ∷ c.args.free ∷ []) c.args.cells.now c.split_free.new.cells c.args.index.now c.split_free.new.index
    c.requires.hand (c.split_free.ensures.holds (c.args.leaf ∷ c.args.free ∷ []) c.requires.hand.holds)

pub returns-in-Other-clause-kept : goal.returns-in-Other-clause-kept
returns-in-Other-clause-kept c =
    keeps_state c.args.store.now c.args.pass.now c.split_free.new.pass c.split_free.ensures.kept
