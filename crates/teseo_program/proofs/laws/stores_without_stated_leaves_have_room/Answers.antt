use Rattle.teseo_program.proofs.RoomLawLemmas.{loads_find_room, runs_find_room}
use Rattle.teseo_program.proofs.laws.stores_without_stated_leaves_have_room.Goals as goal

pub returns-clause-loads : goal.returns-clause-loads
returns-clause-loads c = loads_find_room

pub returns-clause-runs : goal.returns-clause-runs
returns-clause-runs c = runs_find_room
