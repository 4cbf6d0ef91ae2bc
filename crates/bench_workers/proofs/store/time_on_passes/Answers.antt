use denote.Param.Send.{sendable}
use Rattle.std.proofs.Common.{◌∙◌, ◌++◌, [], ◌∷◌, ap, map, subst, sym}
use Rattle.std.specs.List.{AllByRecursion}
use Rattle.cases_workers.specs.SharedStore.Passes.{IsIdle}
use Rattle.cases_workers.proofs.RebalanceService.SendLemmas.{worker_send}
use Rattle.cases_workers.proofs.PassLemmas.{has_left, in_order}
use Rattle.bench_workers.proofs.HireLemmas.{dismissed, each_idle, hired_closed}
use Rattle.bench_workers.proofs.store.time_on_passes.Goals as goal

pub hire_all-requires-clause-idle : goal.hire_all-requires-clause-idle
hire_all-requires-clause-idle g c =
    let left = has_left c.args.store.now c.args.list.now.items c.take_last-watcher.new.list.items
    c.take_last-watcher.result c.take_last-watcher.ensures.items
    (in_order c.args.store.now c.args.list.now.items c.requires.idle) in
    each_idle c.args.store.now c.take_last-watcher.new.list.items left.rest

pub time-ended-requires-send-E : goal.time-ended-requires-send-E
time-ended-requires-send-E g c = search (sendable, worker_send, c.type_bounds.sync-R)

pub time-ended-requires-clause-idle : goal.time-ended-requires-clause-idle
time-ended-requires-clause-idle g c κs within =
    (has_left c.args.store.now c.args.list.now.items c.take_last-watcher.new.list.items c.take_last-watcher.result
    c.take_last-watcher.ensures.items (in_order c.args.store.now c.args.list.now.items c.requires.idle)).idle

pub time-ended-requires-clause-closed : goal.time-ended-requires-clause-closed
time-ended-requires-clause-closed g c κs within =
    let left = has_left c.args.store.now c.args.list.now.items c.take_last-watcher.new.list.items
    c.take_last-watcher.result c.take_last-watcher.ensures.items
    (in_order c.args.store.now c.args.list.now.items c.requires.idle) in
    let idle = each_idle c.args.store.now c.take_last-watcher.new.list.items left.rest in
    hired_closed (λ w. w.store.now) (λ w. w.pass) c.args.store.now c.hire_all.new.workers.items
    (subst (AllByRecursion (IsIdle c.args.store.now)) (sym c.hire_all.ensures.workers) idle) c.hire_all.ensures.stores

pub returns : goal.returns
returns g c =
    dismissed (λ w. w.store.now) (λ w. w.pass) c.args.store.now c.args.list.now.items
    c.take_last-watcher.new.list.items c.push_reserved.new.self.items c.hire_all.new.workers.items
    c.time-ended.new.engines.items c.take_last-watcher.result c.time-ended.new.watcher c.requires.idle
    c.take_last-watcher.ensures.items c.hire_all.ensures.workers
    c.time-ended.ensures.jobs c.time-ended.ensures.closed c.dismiss_all.ensures.ready
    (c.push_reserved.ensures.items ∙ ap (λ xs. xs ++ c.time-ended.new.watcher ∷ []) (c.dismiss_all.ensures.passes
    ∙ ap (λ xs. xs ++ map (λ w. w.pass) c.time-ended.new.engines.items) c.hire_all.ensures.passes.0))
    c.time-ended.ensures.idle c.time-ended.ensures.number
