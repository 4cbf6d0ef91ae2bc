use Rattle.std.proofs.lemmas.List.Sorted.{IsNonDecreasingBy-from_sort}
use Rattle.kernel_cdlp.proofs.FrequencyLemmas.{most_by_far, reordered}
use Rattle.kernel_cdlp.proofs.frequency.most_frequent.Goals as goal

pub returns-then-outnumbers : goal.returns-then-outnumbers
returns-then-outnumbers c = most_by_far c.args.default _ c.args.values.now (c.outnumbers.ensures c.if-outnumbers.true)

pub longest_run-requires : goal.longest_run-requires
longest_run-requires c = λ i j le below. IsNonDecreasingBy-from_sort (λ x. x) c.sort_unstable.new.self c.sort_unstable.ensures.sorted i j 0 le below

pub returns : goal.returns
returns c = reordered c.args.default c.longest_run.result c.args.values.now c.sort_unstable.new.self c.sort_unstable.ensures.permutation c.sort_unstable.ensures.len c.longest_run.ensures
