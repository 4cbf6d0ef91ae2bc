-- each number before this place is below the next
use Rattle.std.proofs.Common.{ℕ, ◌+◌, ◌<◌, get_or}
use Rattle.id_places.proofs.distinct.rises.Given as goal

abbrev pub invariant-places : goal.invariant-places
invariant-places l = (k : ℕ) → k + 1 < l.i → get_or l.numbers k 0 < get_or l.numbers (k + 1) 0
