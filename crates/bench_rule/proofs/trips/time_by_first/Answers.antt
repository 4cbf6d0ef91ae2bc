use Rattle.std.proofs.Common.{◌<◌, length, arith}
use Rattle.std.proofs.lemmas.Bool.Decides.{nat_tests}
use Rattle.cases_store.proofs.VisitLemmas.{ease_at}
use Rattle.bench_rule.proofs.trips.time_by_first.Goals as goal

pub time_by-requires-clause-pass : goal.time_by-requires-clause-pass
time_by-requires-clause-pass g c =
    let list = c.args.passes.now.items in
    let some : 0 < length list = grind (arith, nat_tests, c.if-is_empty.false, c.is_empty.ensures) in
    ease_at c.args.store.now list c.requires 0 c.index_mut.result.now some c.index_mut.ensures.value
