-- the places so far that are at the level are counted
use Rattle.std.proofs.Common.{◌≡◌, ◌≤◌, ◌==◌, take, count_by}
use Rattle.kernel_bfs.proofs.frontier.count_at.Given as goal

abbrev pub invariant-places : goal.invariant-places
invariant-places l = (l.count ≡ count_by (λ d. d == l.level) (take l.place l.distances)) × (l.count ≤ l.place)
