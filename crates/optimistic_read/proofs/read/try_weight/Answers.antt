use Rattle.std.proofs.Common.{◌∙◌, ap, subst}
use Rattle.optimistic_read.specs.Tried.{IsValueOf, view_in}
use Rattle.graph_model.specs.Rows.{value_at}
use Rattle.optimistic_read.proofs.TryLemmas.{arc_value}
use Rattle.optimistic_read.proofs.read.try_weight.Goals as goal

pub returns-clause-value : goal.returns-clause-value
returns-clause-value c =
    let view = view_in c.args.store.now c.args.pass.now in
    subst (IsValueOf c.try_key.result) (ap (value_at view) c.of_arc.ensures ∙ arc_value view c.args.u c.args.v)
    c.try_key.ensures.value
