use Rattle.std.proofs.Common.{◌∙◌, sym}
use Rattle.cases_workers.proofs.PassLemmas.{all_idle, comes_back, has_left, in_order, new_closed, one_more, same_number}
use Rattle.cases_workers.proofs.case.run_by_last.Goals as goal

pub new-worker-requires-clause-idle : goal.new-worker-requires-clause-idle
new-worker-requires-clause-idle g c =
    (has_left c.args.store.now c.args.list.now.items c.take_last.new.list.items c.take_last.result
    c.take_last.ensures.items (in_order c.args.store.now c.args.list.now.items c.requires.idle)).idle

pub run-requires : goal.run-requires
run-requires g c =
    let left = has_left c.args.store.now c.args.list.now.items c.take_last.new.list.items c.take_last.result
    c.take_last.ensures.items (in_order c.args.store.now c.args.list.now.items c.requires.idle) in
    new_closed c.args.store.now c.take_last.result c.new-worker.result.pass left.idle c.new-worker.ensures.pass

pub returns : goal.returns
returns g c =
    let store = c.args.store.now in
    let rest = c.take_last.new.list.items in
    let left = has_left store c.args.list.now.items rest c.take_last.result c.take_last.ensures.items
    (in_order store c.args.list.now.items c.requires.idle) in
    let number = same_number c.take_last.result c.new-worker.result.pass c.run.new.engine.pass c.leave.result
    c.new-worker.ensures.pass c.run.ensures.job c.leave.ensures.pass in
    all_idle store c.put_last.new.list.items
    (one_more rest c.put_last.new.list.items c.leave.result c.put_last.ensures.items ∙ sym left.count ∙ c.requires.idle.count)
    (comes_back store rest c.put_last.new.list.items c.leave.result c.put_last.ensures.items left.rest
    c.leave.ensures.idle (number ∙ left.number))
