use denote.Param.Send.{sendable}
use Rattle.std.proofs.Common.{◌+◌, ◌∙◌, ap, arith, sym}
use Rattle.rebalance_service.proofs.SendLemmas.{worker_send}
use Rattle.cases_workers.proofs.PassLemmas.{all_idle, comes_back, has_left, in_order, new_closed, one_more, same_number, three_left}
use Rattle.cases_workers.proofs.three.run_three.Goals as goal

pub run_beside-requires-send-E : goal.run_beside-requires-send-E
run_beside-requires-send-E g c =
    search (sendable, worker_send, c.type_bounds.sync-R)

pub new-third-requires-clause-idle : goal.new-third-requires-clause-idle
new-third-requires-clause-idle g c =
    (has_left c.args.store.now c.args.list.now.items c.take_last.new.list.items c.take_last.result
    c.take_last.ensures.items (in_order c.args.store.now c.args.list.now.items c.requires.idle)).idle

pub new-second-requires-clause-idle : goal.new-second-requires-clause-idle
new-second-requires-clause-idle g c =
    let last = has_left c.args.store.now c.args.list.now.items c.take_last.new.list.items c.take_last.result
    c.take_last.ensures.items (in_order c.args.store.now c.args.list.now.items c.requires.idle) in
    (has_left c.args.store.now c.take_last.new.list.items c.take_last-2.new.list.items c.take_last-2.result
    c.take_last-2.ensures.items last.rest).idle

pub new-first-requires-clause-idle : goal.new-first-requires-clause-idle
new-first-requires-clause-idle g c =
    (three_left c.args.store.now c.args.list.now.items c.take_last.new.list.items c.take_last-2.new.list.items
    c.take_last-3.new.list.items c.take_last.result c.take_last-2.result c.take_last-3.result c.requires.idle
    c.take_last.ensures.items c.take_last-2.ensures.items c.take_last-3.ensures.items).front.idle

pub run_beside-requires-clause-first : goal.run_beside-requires-clause-first
run_beside-requires-clause-first g c κs within =
    let left = three_left c.args.store.now c.args.list.now.items c.take_last.new.list.items c.take_last-2.new.list.items
    c.take_last-3.new.list.items c.take_last.result c.take_last-2.result c.take_last-3.result c.requires.idle
    c.take_last.ensures.items c.take_last-2.ensures.items c.take_last-3.ensures.items in
    new_closed c.args.store.now c.take_last-3.result c.new-first.result.pass left.front.idle c.new-first.ensures.pass

pub run_beside-requires-clause-second : goal.run_beside-requires-clause-second
run_beside-requires-clause-second g c κs within =
    let left = three_left c.args.store.now c.args.list.now.items c.take_last.new.list.items c.take_last-2.new.list.items
    c.take_last-3.new.list.items c.take_last.result c.take_last-2.result c.take_last-3.result c.requires.idle
    c.take_last.ensures.items c.take_last-2.ensures.items c.take_last-3.ensures.items in
    new_closed c.args.store.now c.take_last-2.result c.new-second.result.pass left.middle.idle c.new-second.ensures.pass

pub run_beside-requires-clause-third : goal.run_beside-requires-clause-third
run_beside-requires-clause-third g c κs within =
    let left = three_left c.args.store.now c.args.list.now.items c.take_last.new.list.items c.take_last-2.new.list.items
    c.take_last-3.new.list.items c.take_last.result c.take_last-2.result c.take_last-3.result c.requires.idle
    c.take_last.ensures.items c.take_last-2.ensures.items c.take_last-3.ensures.items in
    new_closed c.args.store.now c.take_last.result c.new-third.result.pass left.last.idle c.new-third.ensures.pass

pub put_last-requires-2 : goal.put_last-requires-2
put_last-requires-2 g c =
    let left = three_left c.args.store.now c.args.list.now.items c.take_last.new.list.items c.take_last-2.new.list.items
    c.take_last-3.new.list.items c.take_last.result c.take_last-2.result c.take_last-3.result c.requires.idle
    c.take_last.ensures.items c.take_last-2.ensures.items c.take_last-3.ensures.items in
    let taken = c.take_last.ensures.capacity in
    let taken_two = c.take_last-2.ensures.capacity in
    let taken_three = c.take_last-3.ensures.capacity in
    let put = c.put_last.ensures.capacity in
    let put_count = one_more c.take_last-3.new.list.items c.put_last.new.list.items c.leave.result c.put_last.ensures.items in
    let held = c.args.list.now.ok in
    let last = left.last.count in
    let middle = left.middle.count in
    let front = left.front.count in
    omega (arith, taken, taken_two, taken_three, put, put_count, held, last, middle, front)

pub put_last-requires-3 : goal.put_last-requires-3
put_last-requires-3 g c =
    let left = three_left c.args.store.now c.args.list.now.items c.take_last.new.list.items c.take_last-2.new.list.items
    c.take_last-3.new.list.items c.take_last.result c.take_last-2.result c.take_last-3.result c.requires.idle
    c.take_last.ensures.items c.take_last-2.ensures.items c.take_last-3.ensures.items in
    let taken = c.take_last.ensures.capacity in
    let taken_two = c.take_last-2.ensures.capacity in
    let taken_three = c.take_last-3.ensures.capacity in
    let put = c.put_last.ensures.capacity in
    let put_count = one_more c.take_last-3.new.list.items c.put_last.new.list.items c.leave.result c.put_last.ensures.items in
    let held = c.args.list.now.ok in
    let last = left.last.count in
    let middle = left.middle.count in
    let front = left.front.count in
    let put_two = c.put_last-2.ensures.capacity in
    let count_two = one_more c.put_last.new.list.items c.put_last-2.new.list.items c.leave-2.result c.put_last-2.ensures.items in
    omega (arith, taken, taken_two, taken_three, put, put_count, put_two, count_two, held, last, middle, front)

pub returns : goal.returns
returns g c =
    let store = c.args.store.now in
    let left = three_left c.args.store.now c.args.list.now.items c.take_last.new.list.items c.take_last-2.new.list.items
    c.take_last-3.new.list.items c.take_last.result c.take_last-2.result c.take_last-3.result c.requires.idle
    c.take_last.ensures.items c.take_last-2.ensures.items c.take_last-3.ensures.items in
    let rest = c.take_last-3.new.list.items in
    let one = c.put_last.new.list.items in
    let two = c.put_last-2.new.list.items in
    let all = c.put_last-3.new.list.items in
    let one_count = one_more rest one c.leave.result c.put_last.ensures.items in
    let two_count = one_more one two c.leave-2.result c.put_last-2.ensures.items in
    let all_count = one_more two all c.leave-3.result c.put_last-3.ensures.items in
    let first = same_number c.take_last-3.result c.new-first.result.pass c.run_beside.new.first.pass c.leave.result
    c.new-first.ensures.pass c.run_beside.ensures.first.job c.leave.ensures.pass in
    let second = same_number c.take_last-2.result c.new-second.result.pass c.run_beside.new.second.pass c.leave-2.result
    c.new-second.ensures.pass c.run_beside.ensures.second.job c.leave-2.ensures.pass in
    let third = same_number c.take_last.result c.new-third.result.pass c.run_beside.new.third.pass c.leave-3.result
    c.new-third.ensures.pass c.run_beside.ensures.third.job c.leave-3.ensures.pass in
    let with_one = comes_back store rest one c.leave.result c.put_last.ensures.items left.front.rest c.leave.ensures.idle
    (first ∙ left.front.number) in
    let with_two = comes_back store one two c.leave-2.result c.put_last-2.ensures.items with_one c.leave-2.ensures.idle
    (second ∙ left.middle.number ∙ left.front.count ∙ sym one_count) in
    let with_all = comes_back store two all c.leave-3.result c.put_last-3.ensures.items with_two c.leave-3.ensures.idle
    (third ∙ left.last.number ∙ left.middle.count ∙ ap (λ n. n + 1) (left.front.count ∙ sym one_count) ∙ sym two_count) in
    all_idle store all
    (omega (arith, all_count, two_count, one_count, left.front.count, left.middle.count, left.last.count, c.requires.idle.count))
    with_all
