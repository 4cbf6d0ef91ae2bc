use Rattle.std.proofs.Common.{ap}
use Rattle.cases_engine.specs.Open.{open_of}
use Rattle.cases_engine.proofs.sweeps.a_sweep_leaves_what_an_open_transaction_reads.Goals as goal

pub sweep_beside_a_reader-requires : goal.sweep_beside_a_reader-requires
sweep_beside_a_reader-requires g c = ap open_of c.in_ok-core.ensures.ok.core
