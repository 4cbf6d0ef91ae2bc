use Rattle.std.proofs.Common.{sym, ◌∙◌}
use Rattle.graph_model.proofs.TestLemmas.{eq_of}
use Rattle.pass_merges.proofs.TurnLemmas.{next_to}
use Rattle.pass_merges.proofs.work.stand_together.Goals as goal

pub returns : goal.returns
returns c = λ same.
    next_to c.args.index.now c.args.key c.leaf_at-range.result c.leaf_at-next.result c.args.pair c.is_index.ensures.index
    c.leaf_at-range.ensures (sym c.is_below.ensures ∙ c.if-not-is_below.false) c.leaf_at-next.ensures
    c.if-range-pair.false (eq_of c.leaf_at-next.result.leaf c.args.pair.right same)
