use Rattle.graph_model.proofs.ExampleLemmas.{refusals, allowed_lists, limits, effects, sound_graphs, row_lists, scans}
use Rattle.graph_model.proofs.laws.examples_hold.Goals as goal

pub returns-clause-refusals : goal.returns-clause-refusals
returns-clause-refusals c = refusals

pub returns-clause-allowed : goal.returns-clause-allowed
returns-clause-allowed c = allowed_lists

pub returns-clause-limits : goal.returns-clause-limits
returns-clause-limits c = limits

pub returns-clause-effects : goal.returns-clause-effects
returns-clause-effects c = effects

pub returns-clause-sound : goal.returns-clause-sound
returns-clause-sound c = sound_graphs

pub returns-clause-rows : goal.returns-clause-rows
returns-clause-rows c = row_lists

pub returns-clause-scans : goal.returns-clause-scans
returns-clause-scans c = scans
