use Rattle.std.proofs.Common.{length, ◌-◌, ◌∙◌, ap}
use Rattle.leaf_index.specs.Index.{Index}
use Rattle.leaf_index.proofs.index.LeafIndex.in_use.Goals as goal

pub returns : goal.returns
returns c =
    let leaves = c.saturating_sub.ensures ∙ (λ i. c.leaves.ensures i - c.free_count-idle.ensures i) in
    let all = c.saturating_sub-2.ensures ∙ (λ i. leaves i - c.retired_count.ensures i) in
    all ∙ ap (λ (x : Index). c.args.self.now.leaves - length x.free - length x.retired) c.self.view_is
