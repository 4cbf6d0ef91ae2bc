use Rattle.std.proofs.Common.{arith, refl}
use Rattle.id_places.proofs.DistinctLemmas.{distinct_from_increasing}
use Rattle.id_places.proofs.WithinLemmas.{told_all}
use Rattle.id_places.proofs.distinct.are_distinct_by_threads.Goals as goal

pub returns-then-rises : goal.returns-then-rises
returns-then-rises g c = (λ _. distinct_from_increasing c.args.numbers.now (c.rises.ensures.0 c.if-rises.true), λ _. refl)

pub returns : goal.returns
returns g c = told_all _ c.differ.result 18446744073709551615 c.args.numbers.now (λ i. omega (arith, c.type_inv.numbers i)) c.differ.ensures
