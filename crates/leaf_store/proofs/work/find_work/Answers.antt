use Rattle.std.proofs.Common.{◌<◌, refl, sym, subst}
use Rattle.leaf_store.specs.Queued.{IsTended}
use Rattle.leaf_store.proofs.PassLemmas.{fewer_looks, looks_left}
use Rattle.leaf_store.proofs.WorkLemmas.{all_done, tended_passed}
use Rattle.leaf_store.proofs.work.find_work.Goals as goal

pub returns-in_default-clause-none : goal.returns-in_default-clause-none
returns-in_default-clause-none c = λ none. all_done c.args.index.now c.args.leaves.now.items c.waiting.queue c.waiting.invariant (c.in_default.ensures.none refl)

pub waiting-smaller : goal.waiting-smaller
waiting-smaller c =
    subst (λ places. looks_left places < looks_left c.waiting.queue) (sym c.pass.ensures) (fewer_looks c.waiting.queue c.in-Some.first.leaf c.in-Some.first c.in-Some.ensures.some.waits)

pub waiting-preserved : goal.waiting-preserved
waiting-preserved c =
    subst (IsTended c.args.index.now c.args.leaves.now.items) (sym c.pass.ensures) (tended_passed c.args.index.now c.args.leaves.now.items c.waiting.queue c.in-Some.first c.waiting.invariant c.in-Some.ensures.some.waits (c.in_default-work_at.ensures.none refl))
