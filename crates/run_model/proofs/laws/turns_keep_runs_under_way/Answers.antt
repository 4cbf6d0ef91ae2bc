use Rattle.run_model.proofs.SteppedLemmas.{first_is}
use Rattle.run_model.proofs.TurnLemmas.{turn_keeps, reached_keeps, lines_stand}
use Rattle.run_model.proofs.laws.turns_keep_runs_under_way.Goals as goal

pub returns-clause-first : goal.returns-clause-first
returns-clause-first c = first_is

pub returns-clause-turn : goal.returns-clause-turn
returns-clause-turn c = turn_keeps

pub returns-clause-reached : goal.returns-clause-reached
returns-clause-reached c = reached_keeps

pub returns-clause-lines : goal.returns-clause-lines
returns-clause-lines c = lines_stand
