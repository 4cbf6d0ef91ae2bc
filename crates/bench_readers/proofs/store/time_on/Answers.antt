use Rattle.bench_readers.proofs.RoundLemmas.{all_are_idle, one_is_idle, rest_are_idle}
use Rattle.bench_readers.proofs.store.time_on.Goals as goal

pub time_pass-ended-requires-clause-pass : goal.time_pass-ended-requires-clause-pass
time_pass-ended-requires-clause-pass g c κs within =
    one_is_idle c.args.store.now c.args.list.now.items c.take_last-pass.new.list.items c.take_last-pass.new.list.items
    c.take_last-pass.result c.take_last-pass.result c.requires c.take_last-pass.ensures.items

pub time_pass-ended-requires-clause-idle : goal.time_pass-ended-requires-clause-idle
time_pass-ended-requires-clause-idle g c κs within =
    rest_are_idle c.args.store.now c.args.list.now.items c.take_last-pass.new.list.items c.take_last-pass.new.list.items
    c.take_last-pass.result c.take_last-pass.result c.requires c.take_last-pass.ensures.items

pub returns : goal.returns
returns g c =
    all_are_idle c.args.store.now c.args.list.now.items c.take_last-pass.new.list.items c.time_pass-ended.new.idle.items
    c.take_last-pass.result c.time_pass-ended.new.pass c.requires c.take_last-pass.ensures.items
    c.time_pass-ended.ensures.idle c.time_pass-ended.ensures.pass c.time_pass-ended.ensures.number
    c.push_reserved.new.self.items c.push_reserved.ensures.items
