use Rattle.cells_model.proofs.NoteLemmas.{sweeper_begins, sweep_looks_on, sweeper_frees, sweeper_ends, other_sweep_begins, other_sweep_ends}
use Rattle.cells_model.proofs.laws.sweeps_keep_noted_leaves.Goals as goal

pub returns-clause-begins : goal.returns-clause-begins
returns-clause-begins c = sweeper_begins

pub returns-clause-looks : goal.returns-clause-looks
returns-clause-looks c = sweep_looks_on

pub returns-clause-frees : goal.returns-clause-frees
returns-clause-frees c = sweeper_frees

pub returns-clause-ends : goal.returns-clause-ends
returns-clause-ends c = sweeper_ends

pub returns-clause-other_begins : goal.returns-clause-other_begins
returns-clause-other_begins c = other_sweep_begins

pub returns-clause-other_ends : goal.returns-clause-other_ends
returns-clause-other_ends c = other_sweep_ends
