-- Turns of the service.
use Rattle.rebalance_service.specs.declared.serve.WorkerTurn.{WorkerTurn}
use Rattle.rebalance_service.specs.declared.serve.WorkerTurn.TheVariants.{Sweep, Merge}

-- a sweep and a turn of merging take their turns
abbrev pub next_turn : WorkerTurn → WorkerTurn
next_turn Sweep = Merge
next_turn Merge = Sweep
