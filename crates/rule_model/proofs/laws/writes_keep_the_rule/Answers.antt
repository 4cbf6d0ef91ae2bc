use Rattle.rule_model.proofs.RowStepLemmas.{write_is_made, write_grows_by_rows, write_is_undone}
use Rattle.rule_model.proofs.TxnLemmas.{write_is_full}
use Rattle.rule_model.proofs.laws.writes_keep_the_rule.Goals as goal

pub returns-clause-write : goal.returns-clause-write
returns-clause-write c = write_is_made

pub returns-clause-grows : goal.returns-clause-grows
returns-clause-grows c = write_grows_by_rows

pub returns-clause-undo : goal.returns-clause-undo
returns-clause-undo c = write_is_undone

pub returns-clause-full : goal.returns-clause-full
returns-clause-full c = write_is_full
