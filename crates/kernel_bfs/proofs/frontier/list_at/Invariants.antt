-- the places so far that are at the level are listed
use Rattle.kernel_bfs.proofs.SpreadLemmas.{IsCollected}
use Rattle.kernel_bfs.proofs.frontier.list_at.Given as goal

abbrev pub invariant-each : goal.invariant-each
invariant-each l = IsCollected l.level l.distances l.place l.places.items
