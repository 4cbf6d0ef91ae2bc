use Rattle.std.proofs.Common.{arith}
use Rattle.graphalytics_io.specs.Numbers.{number_of}
use Rattle.graph_files.proofs.WeightLemmas.{not_smaller}
use Rattle.graph_files.proofs.weights.scaled.Goals as goal

pub returns-in_err-value_of : goal.returns-in_err-value_of
returns-in_err-value_of c =
    let larger = not_smaller (number_of c.args.digits.now) c.args.zeros in
    rw c.from_residual.ensures (omega (arith, larger, c.in_err-value_of.ensures))
