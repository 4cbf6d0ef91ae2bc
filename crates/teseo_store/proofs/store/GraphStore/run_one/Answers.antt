use Rattle.std.proofs.Common.{◌≤◌, subst, sym}
use Rattle.teseo_store.proofs.PropLemmas.{are_idle}
use Rattle.teseo_store.proofs.store.GraphStore.run_one.Goals as goal

pub work_with_last-requires-clause-idle : goal.work_with_last-requires-clause-idle
work_with_last-requires-clause-idle g c =
    let store = c.args.self.now in are_idle store.shared store.passes.list.items store.idle

pub work_with_last-requires-clause-some : goal.work_with_last-requires-clause-some
work_with_last-requires-clause-some g c =
    let store = c.args.self.now in
    let idle = are_idle store.shared store.passes.list.items store.idle in
    subst (λ n. 1 ≤ n) (sym idle.count) store.some
