use Rattle.bench_rule.proofs.EaseLemmas.{loaded_at_ease}
use Rattle.bench_rule.proofs.trips.time.Goals as goal

pub time_by_first-requires : goal.time_by_first-requires
time_by_first-requires g c =
    loaded_at_ease c.in_ok-store.store c.args.source.now.load c.in_ok-store.passes.list.items c.in_ok-store.ensures
