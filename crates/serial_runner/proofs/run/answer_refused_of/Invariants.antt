-- the refused commits so far have their answers
use Rattle.std.proofs.Common.{take}
use Rattle.serial_runner.proofs.AnewLemmas.{AreAnew}
use Rattle.serial_runner.proofs.run.answer_refused_of.Given as goal

abbrev pub invariant-refused : goal.invariant-refused
invariant-refused l = AreAnew l.job (take l.commit-index l.refused) l.fn.jobs l.jobs
