-- the bits so far are of the level
use Rattle.kernel_bfs.proofs.PlaceSetLemmas.{IsWordTo}
use Rattle.kernel_bfs.proofs.place_set.word_from.Given as goal

abbrev pub invariant-bits : goal.invariant-bits
invariant-bits l = IsWordTo l.level l.distances l.first l.k l.word
