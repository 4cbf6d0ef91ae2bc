use Rattle.std.proofs.Common.{◌≤◌, length, subst, sym}
use Rattle.teseo_store.proofs.PropLemmas.{are_idle}
use Rattle.teseo_store.proofs.store.GraphStore.run.Goals as goal

pub work_on-requires-clause-idle : goal.work_on-requires-clause-idle
work_on-requires-clause-idle g c κs within =
    let store = c.args.self.now in are_idle store.shared store.passes.list.items store.idle

pub work_on-requires-clause-enough : goal.work_on-requires-clause-enough
work_on-requires-clause-enough g c κs within =
    let store = c.args.self.now in
    let idle = are_idle store.shared store.passes.list.items store.idle in
    subst (λ n. length c.args.works.now ≤ n) (sym idle.count) c.requires.enough
