use Rattle.rule_model.proofs.EndLemmas.{lines_are_new, new_table, store_closes, table_begins, table_closes}
use Rattle.rule_model.proofs.LoadedLemmas.{loaded_table}
use Rattle.rule_model.proofs.laws.stores_begin_and_close.Goals as goal

pub returns-clause-words : goal.returns-clause-words
returns-clause-words c = lines_are_new

pub returns-clause-new : goal.returns-clause-new
returns-clause-new c = new_table

pub returns-clause-close : goal.returns-clause-close
returns-clause-close c = table_closes

pub returns-clause-begin : goal.returns-clause-begin
returns-clause-begin c = table_begins

pub returns-clause-load : goal.returns-clause-load
returns-clause-load c = loaded_table

pub returns-clause-rows : goal.returns-clause-rows
returns-clause-rows c = store_closes
