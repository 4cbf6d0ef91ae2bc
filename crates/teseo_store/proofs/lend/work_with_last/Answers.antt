use Rattle.std.proofs.Common.{refl, ◌∙◌}
use Rattle.teseo_store.proofs.LendLemmas.{all_idle, in_order, is_back, lies_idle, lies_order}
use Rattle.teseo_store.proofs.lend.work_with_last.Goals as goal

pub lend-requires-clause-idle : goal.lend-requires-clause-idle
lend-requires-clause-idle g c =
    let store = c.args.store.now in
    let list = c.args.list.now.items in
    (lies_idle store list c.take_last-pass.new.list.items c.take_last-pass.result
    (in_order store list c.requires.idle) c.take_last-pass.ensures.items)

pub returns-clause-idle : goal.returns-clause-idle
returns-clause-idle g c =
    let store = c.args.store.now in
    let list = c.args.list.now.items in
    let rest = c.take_last-pass.new.list.items in
    let new = c.put_last.new.list.items in
    let back = is_back store list rest rest new c.take_last-pass.result c.lend.result
    (in_order store list c.requires.idle) c.take_last-pass.ensures.items c.put_last.ensures.items
    (lies_order store list rest c.take_last-pass.result (in_order store list c.requires.idle)
    c.take_last-pass.ensures.items) refl c.lend.ensures.idle c.lend.ensures.number in
    all_idle store new (back.count ∙ c.requires.idle.count) back.order
