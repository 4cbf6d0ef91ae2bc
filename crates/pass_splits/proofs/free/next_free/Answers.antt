use Rattle.std.proofs.Common.{sym, ◌∙◌, ap}
use Rattle.leaf_index.specs.Index.{Index}
use Rattle.pass_splits.proofs.free.next_free.Goals as goal

pub returns-clause-next : goal.returns-clause-next
returns-clause-next c = (c.take_free.new.self.free, ap (λ (i : Index). i.free) c.in-Some.ensures.0)

pub returns-clause-same : goal.returns-clause-same
returns-clause-same c = c.give_back.ensures ∙ sym c.in-Some.ensures.0
