use Rattle.std.proofs.Common.{◌∷◌, []}
use Rattle.pass_room.proofs.HandLemmas.{first_then, goes_on, keeps_as}
use Rattle.pass_writes.proofs.HandLemmas.{keeps_state}
use Rattle.pass_room.proofs.spread.spread_in_hand.Goals as goal

pub free_places-requires-clause-holds : goal.free_places-requires-clause-holds
free_places-requires-clause-holds c = (c.args.leaf, c.requires.hand.holds, c.requires.key)

pub at-requires : goal.at-requires
at-requires c = (
  c.args.leaf ∷ [],
  c.free_places.ensures.holds c.args.leaf c.requires.hand.holds,
  rw c.in-Ok-Free.field-0-is at (c.in-Ok-Free.ensures.room c.args.leaf c.requires.key),
)

pub returns-in-Ok-Free-clause-hand : goal.returns-in-Ok-Free-clause-hand
returns-in-Ok-Free-clause-hand c =
    goes_on c.args.store.now c.args.pass.now c.free_places.new.pass c.free_places.ensures.kept (c.args.leaf ∷ [])
    c.args.cells.now c.free_places.new.cells c.args.index.now c.free_places.new.index c.requires.hand
    (c.free_places.ensures.holds c.args.leaf c.requires.hand.holds)

pub returns-in-Ok-Free-clause-kept : goal.returns-in-Ok-Free-clause-kept
returns-in-Ok-Free-clause-kept c =
    keeps_as c.args.pass.now c.free_places.new.pass
    (keeps_state c.args.store.now c.args.pass.now c.free_places.new.pass c.free_places.ensures.kept)

pub look_for_free-requires-clause-hand : goal.look_for_free-requires-clause-hand
look_for_free-requires-clause-hand c =
    goes_on c.args.store.now c.args.pass.now c.free_places.new.pass c.free_places.ensures.kept (c.args.leaf ∷ [])
    c.args.cells.now c.free_places.new.cells c.args.index.now c.free_places.new.index c.requires.hand
    (c.free_places.ensures.holds c.args.leaf c.requires.hand.holds)

pub look_for_free-requires-clause-crowded : goal.look_for_free-requires-clause-crowded
look_for_free-requires-clause-crowded c =
    rw c.in-Ok-Crowded.field-0-is at (c.in-Ok-Crowded.ensures.room c.args.leaf c.requires.key)

pub returns-in-Ok-Crowded-clause-kept : goal.returns-in-Ok-Crowded-clause-kept
returns-in-Ok-Crowded-clause-kept c =
    first_then c.look_for_free.result c.args.pass.now c.free_places.new.pass c.look_for_free.new.pass
    (keeps_state c.args.store.now c.args.pass.now c.free_places.new.pass c.free_places.ensures.kept)
    c.look_for_free.ensures.kept

pub returns-in-Err-clause-hand : goal.returns-in-Err-clause-hand
returns-in-Err-clause-hand c =
    goes_on c.args.store.now c.args.pass.now c.free_places.new.pass c.free_places.ensures.kept (c.args.leaf ∷ [])
    c.args.cells.now c.free_places.new.cells c.args.index.now c.free_places.new.index c.requires.hand
    (c.free_places.ensures.holds c.args.leaf c.requires.hand.holds)

pub returns-in-Err-clause-kept : goal.returns-in-Err-clause-kept
returns-in-Err-clause-kept c =
    keeps_as c.args.pass.now c.free_places.new.pass
    (keeps_state c.args.store.now c.args.pass.now c.free_places.new.pass c.free_places.ensures.kept)
