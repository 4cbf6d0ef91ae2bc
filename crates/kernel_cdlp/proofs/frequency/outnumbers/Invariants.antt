-- so often the value stands so far
use Rattle.std.proofs.Common.{◌≡◌, take}
use Rattle.graph_model.specs.Labels.{times}
use Rattle.kernel_cdlp.proofs.frequency.outnumbers.Given as goal

abbrev pub invariant-values : goal.invariant-values
invariant-values l = l.count ≡ times (take l.i l.values) l.value
