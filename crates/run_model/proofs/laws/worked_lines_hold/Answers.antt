use Rattle.run_model.proofs.LineExampleLemmas.{reads, written, kernels, line_turns}
use Rattle.run_model.proofs.laws.worked_lines_hold.Goals as goal

pub returns-clause-reads : goal.returns-clause-reads
returns-clause-reads c = reads

pub returns-clause-writes : goal.returns-clause-writes
returns-clause-writes c = written

pub returns-clause-kernels : goal.returns-clause-kernels
returns-clause-kernels c = kernels

pub returns-clause-turns : goal.returns-clause-turns
returns-clause-turns c = line_turns
