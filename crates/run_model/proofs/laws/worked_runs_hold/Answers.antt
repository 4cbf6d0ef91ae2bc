use Rattle.run_model.proofs.ExampleLemmas.{conflicts, answers_are, wrong_answers, wrong_parts}
use Rattle.run_model.proofs.laws.worked_runs_hold.Goals as goal

pub returns-clause-conflicts : goal.returns-clause-conflicts
returns-clause-conflicts c = conflicts

pub returns-clause-answers : goal.returns-clause-answers
returns-clause-answers c = answers_are

pub returns-clause-wrong_answers : goal.returns-clause-wrong_answers
returns-clause-wrong_answers c = wrong_answers

pub returns-clause-wrong_parts : goal.returns-clause-wrong_parts
returns-clause-wrong_parts c = wrong_parts
