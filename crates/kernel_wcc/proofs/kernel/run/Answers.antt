use Rattle.kernel_wcc.proofs.TableLemmas.{components_table}
use Rattle.kernel_wcc.proofs.kernel.run.Goals as goal

pub returns : goal.returns
returns g c = λ graph is.
    components_table c.args.image.now graph is c.in_ok-labels.labels.items c.in_ok-labels.ensures.low (c.in_ok-labels.ensures.components graph is)
    c.as_slice.result.now c.as_slice.ensures.value _ c.in_ok-table.ensures
