use Rattle.std.proofs.Common.{◌+◌, ◌∙◌, arith, sym}
use Rattle.cases_workers.proofs.PassLemmas.{all_idle, comes_back, has_left, in_order, new_closed, one_more, same_number}
use Rattle.cases_reads.proofs.routes.run_two.Goals as goal

pub new-worker-requires-clause-idle : goal.new-worker-requires-clause-idle
new-worker-requires-clause-idle g c =
    (has_left c.args.store.now c.args.list.now.items c.take_last.new.list.items c.take_last.result
    c.take_last.ensures.items (in_order c.args.store.now c.args.list.now.items c.requires.idle)).idle

pub run-requires : goal.run-requires
run-requires g c =
    let left = has_left c.args.store.now c.args.list.now.items c.take_last.new.list.items c.take_last.result
    c.take_last.ensures.items (in_order c.args.store.now c.args.list.now.items c.requires.idle) in
    new_closed c.args.store.now c.take_last.result c.new-worker.result.pass left.idle c.new-worker.ensures.pass

pub read_around-found-requires-clause-idle : goal.read_around-found-requires-clause-idle
read_around-found-requires-clause-idle g c =
    let last = has_left c.args.store.now c.args.list.now.items c.take_last.new.list.items c.take_last.result
    c.take_last.ensures.items (in_order c.args.store.now c.args.list.now.items c.requires.idle) in
    (has_left c.args.store.now c.take_last.new.list.items c.take_last-reader.new.list.items c.take_last-reader.result
    c.take_last-reader.ensures.items last.rest).idle

pub put_last-requires-2 : goal.put_last-requires-2
put_last-requires-2 g c =
    let last = has_left c.args.store.now c.args.list.now.items c.take_last.new.list.items c.take_last.result
    c.take_last.ensures.items (in_order c.args.store.now c.args.list.now.items c.requires.idle) in
    let front = has_left c.args.store.now c.take_last.new.list.items c.take_last-reader.new.list.items
    c.take_last-reader.result c.take_last-reader.ensures.items last.rest in
    let taken = c.take_last.ensures.capacity in
    let taken_two = c.take_last-reader.ensures.capacity in
    let put = c.put_last.ensures.capacity in
    let put_count = one_more c.take_last-reader.new.list.items c.put_last.new.list.items c.read_around-found.new.reader
    c.put_last.ensures.items in
    let held = c.args.list.now.ok in
    let last_count = last.count in
    let front_count = front.count in
    omega (arith, taken, taken_two, put, put_count, held, last_count, front_count)

pub returns : goal.returns
returns g c =
    let store = c.args.store.now in
    let last = has_left store c.args.list.now.items c.take_last.new.list.items c.take_last.result
    c.take_last.ensures.items (in_order store c.args.list.now.items c.requires.idle) in
    let rest = c.take_last-reader.new.list.items in
    let front = has_left store c.take_last.new.list.items rest c.take_last-reader.result
    c.take_last-reader.ensures.items last.rest in
    let reader = c.read_around-found.new.reader in
    let one = c.put_last.new.list.items in
    let all = c.put_last-2.new.list.items in
    let one_count = one_more rest one reader c.put_last.ensures.items in
    let all_count = one_more one all c.leave.result c.put_last-2.ensures.items in
    let number = same_number c.take_last.result c.new-worker.result.pass c.read_around-found.new.engine.pass
    c.leave.result c.new-worker.ensures.pass (c.read_around-found.ensures.closed.job ∙ c.run.ensures.job)
    c.leave.ensures.pass in
    let with_one = comes_back store rest one reader c.put_last.ensures.items front.rest c.read_around-found.ensures.idle
    (c.read_around-found.ensures.number ∙ front.number) in
    let with_all = comes_back store one all c.leave.result c.put_last-2.ensures.items with_one c.leave.ensures.idle
    (number ∙ last.number ∙ front.count ∙ sym one_count) in
    all_idle store all (omega (arith, all_count, one_count, front.count, last.count, c.requires.idle.count)) with_all
