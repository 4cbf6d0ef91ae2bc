-- What a turn of the service does.
use Rattle.std.specs.Prelude.{Bool, Result}
use Rattle.std.specs.Result.{IsOkAnd}
use Rattle.items.specs.declared.memory.NoMemory.{NoMemory}
use Rattle.graph_model.specs.OwnerCalls.{one_more}
use Rattle.teseo_core.specs.declared.serve.ServiceTurn.{ServiceTurn}
use Rattle.teseo_core.specs.declared.serve.ServiceTurn.TheVariants.{Sweep, Merge}
use Rattle.teseo_core.specs.Freeing.{Merges}
use Rattle.teseo_core.specs.Keeping.{Store}
use Rattle.teseo_core.specs.Sweeping.{Sweeps}

-- a sweep and a step of merging take their turns
abbrev pub next_turn : ServiceTurn → ServiceTurn
next_turn Sweep = Merge
next_turn Merge = Sweep

-- the turn is counted and passed on
abbrev pub turn_begun : Store → Store
turn_begun s = record s { core = record s.core { served = one_more s.core.served }; turn = next_turn s.turn }

-- a sweep, which takes no memory, or a step of merging
abbrev pub Serves : ServiceTurn → Store → Store → Result Bool NoMemory → Type 0
Serves Sweep old new result = IsOkAnd result (Sweeps old new)
Serves Merge old new result = Merges old new result

-- the one in turn is made behind the count
abbrev pub ServesTurn : Store → Store → Result Bool NoMemory → Type 0
ServesTurn old new result = Serves old.turn (turn_begun old) new result
