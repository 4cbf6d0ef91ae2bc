use Rattle.kernel_sssp.proofs.CertainLemmas.{certain_searched}
use Rattle.kernel_sssp.proofs.kernel.least_weights.Goals as goal

pub returns-in-Some-clause-count : goal.returns-in-Some-clause-count
returns-in-Some-clause-count g c = let are = rw c.in-Some.is at c.in_ok-distances.ensures in are.count

pub returns-in-Some-clause-searched : goal.returns-in-Some-clause-searched
returns-in-Some-clause-searched g c = λ graph is. certain_searched c.args.image.now graph is c.args.root c.in-Some.distances.items (rw c.in-Some.is at c.in_ok-distances.ensures)
