use Rattle.leaf_table.proofs.LoadLemmas.{MadeSoFar}
use Rattle.leaf_table.proofs.load.leaves_of.Given as goal

abbrev pub invariant-leaves : goal.invariant-leaves
invariant-leaves l = MadeSoFar l.rows l.place-end l.rest.items
