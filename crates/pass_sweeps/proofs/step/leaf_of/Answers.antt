use Rattle.pass_sweeps.proofs.IndexLemmas.{leaf_inside}
use Rattle.pass_sweeps.proofs.step.leaf_of.Goals as goal

pub returns-clause-exists : goal.returns-clause-exists
returns-clause-exists c =
    leaf_inside c.args.key c.args.index.now c.leaf_at.result c.is_index.ensures.index c.leaf_at.ensures
