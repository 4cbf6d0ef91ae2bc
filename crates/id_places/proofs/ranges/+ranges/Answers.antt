use Rattle.std.proofs.Common.{arith}
use Rattle.id_places.proofs.WithinLemmas.{told_both}
use Rattle.id_places.proofs.ranges.+ranges.Goals as goal

pub differ-returns : goal.differ-returns
differ-returns g t c = told_both _ c.differ_both.result c.args.low c.in_ok-middle.middle c.args.last c.args.numbers.now (omega arith) (omega arith) c.differ_both.ensures
