use Rattle.std.proofs.Common.{arith}
use Rattle.std.proofs.lemmas.Bool.Decides.{nat_tests}
use Rattle.cases_reads.proofs.txns.run_in.Goals as goal

pub try_run-tried-requires-clause-ahead : goal.try_run-tried-requires-clause-ahead
try_run-tried-requires-clause-ahead c = let less = c.requires.ahead in grind (arith, nat_tests)
