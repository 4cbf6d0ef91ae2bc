use Rattle.std.proofs.Common.{refl, sym, subst}
use Rattle.std.specs.List.Sorted.{IsStrictlyIncreasing}
use Rattle.id_places.proofs.DistinctLemmas.{distinct_from_increasing, distinct_from_sorted, increasing_from_distinct}
use Rattle.id_places.proofs.distinct.are_distinct.Goals as goal

pub returns-then-rises : goal.returns-then-rises
returns-then-rises c = (
  λ _. distinct_from_increasing c.args.numbers.items (subst IsStrictlyIncreasing c.as_slice.ensures.value (c.rises.ensures.0 c.if-rises.true)),
  λ _. refl,
)

pub returns : goal.returns
returns c = (
  λ rises. distinct_from_sorted c.args.numbers.items c.sort_unstable.new.self.items c.sort_unstable.ensures.permutation
      (subst IsStrictlyIncreasing c.as_slice-2.ensures.value (c.rises-2.ensures.0 rises)),
  λ distinct. c.rises-2.ensures.1 (subst IsStrictlyIncreasing (sym c.as_slice-2.ensures.value)
      (increasing_from_distinct c.args.numbers.items c.sort_unstable.new.self.items c.sort_unstable.ensures.permutation c.sort_unstable.ensures.sorted distinct)),
)
