use Rattle.store_model.proofs.ConflictLemmas.{check_is_conflict, check_allows}
use Rattle.store_model.proofs.CombineLemmas.{check-append}
use Rattle.store_model.proofs.SeenLemmas.{looked_allows, looked_by_row}
use Rattle.store_model.proofs.laws.checks_are_exact.Goals as goal

pub returns-clause-conflict : goal.returns-clause-conflict
returns-clause-conflict c = check_is_conflict

pub returns-clause-allows : goal.returns-clause-allows
returns-clause-allows c = check_allows

pub returns-clause-parts : goal.returns-clause-parts
returns-clause-parts c = check-append

pub returns-clause-seen : goal.returns-clause-seen
returns-clause-seen c = looked_allows

pub returns-clause-by_row : goal.returns-clause-by_row
returns-clause-by_row c = looked_by_row
