use Rattle.std.proofs.Common.{◌∙◌}
use Rattle.leaf_store.proofs.TendLemmas.{one_more_thin}
use Rattle.leaf_store.proofs.queue.queue_thin.Goals as goal

pub leaves-preserved : goal.leaves-preserved
leaves-preserved c = record {
  each = one_more_thin c.args.index.now c.args.leaves.now.items c.leaves.queue c.queue_if_thin.new.queue c.leaves.leaf c.leaves.invariant.each c.queue_if_thin.ensures.others c.queue_if_thin.ensures.here;
  count = c.queue_if_thin.ensures.count ∙ c.leaves.invariant.count;
}
