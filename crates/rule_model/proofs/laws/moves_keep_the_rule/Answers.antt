use Rattle.rule_model.proofs.MoveStepLemmas.{rows_are_moved, spread_is_move, split_is_move, merge_is_move}
use Rattle.rule_model.proofs.laws.moves_keep_the_rule.Goals as goal

pub returns-clause-step : goal.returns-clause-step
returns-clause-step c = rows_are_moved

pub returns-clause-spread : goal.returns-clause-spread
returns-clause-spread c = spread_is_move

pub returns-clause-split : goal.returns-clause-split
returns-clause-split c = split_is_move

pub returns-clause-merge : goal.returns-clause-merge
returns-clause-merge c = merge_is_move
