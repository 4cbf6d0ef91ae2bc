use Rattle.pass_sweeps.proofs.LawLemmas.{leaves_are_known, other_sweep_is_behind, published_is_seen, rows_are_pruned_as_seen, sweeper_is_behind, sweeper_yields, writers_are_known}
use Rattle.pass_sweeps.proofs.laws.sweeps_keep_the_rule.Goals as goal

pub returns-clause-sweeper_begins : goal.returns-clause-sweeper_begins
returns-clause-sweeper_begins c = sweeper_is_behind

pub returns-clause-other_begins : goal.returns-clause-other_begins
returns-clause-other_begins c = other_sweep_is_behind

pub returns-clause-see : goal.returns-clause-see
returns-clause-see c = published_is_seen

pub returns-clause-learn : goal.returns-clause-learn
returns-clause-learn c = writers_are_known

pub returns-clause-leaves : goal.returns-clause-leaves
returns-clause-leaves c = leaves_are_known

pub returns-clause-prune : goal.returns-clause-prune
returns-clause-prune c = rows_are_pruned_as_seen

pub returns-clause-yields : goal.returns-clause-yields
returns-clause-yields c = sweeper_yields
