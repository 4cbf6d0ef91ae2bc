use Rattle.std.proofs.Common.{subst}
use Rattle.std.specs.Prelude.{IfSome}
use Rattle.leaf_queue.specs.declared.waiting.Waiting.{Waiting}
use Rattle.leaf_queue.specs.Queue.{IsFirst, Waits}
use Rattle.leaf_queue.proofs.TreeLemmas.{root_first, root_none}
use Rattle.leaf_queue.proofs.queue.LeafQueue.first.Goals as goal

pub returns-clause-some : goal.returns-clause-some
returns-clause-some c =
    let t = c.self.invariant in
    subst (λ places. IfSome c.index.result.now (IsFirst places)) c.self.view_is (root_first c.self.inside.leaves c.self.inside.nodes.items t c.index.result.now c.index.ensures)

pub returns-clause-none : goal.returns-clause-none
returns-clause-none c = λ none.
    let t = c.self.invariant in
    subst (λ places. (w : Waiting) → Waits places w → ⊥) c.self.view_is (root_none c.self.inside.leaves c.self.inside.nodes.items t c.index.result.now c.index.ensures none)
