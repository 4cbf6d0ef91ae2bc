use Rattle.rule_model.proofs.ViewLemmas.{seat_splits, seats_join, reader_is_split, reader_is_joined, heap_is_of_no_account}
use Rattle.rule_model.proofs.laws.views_keep_the_rule.Goals as goal

pub returns-clause-split : goal.returns-clause-split
returns-clause-split c = seat_splits

pub returns-clause-join : goal.returns-clause-join
returns-clause-join c = seats_join

pub returns-clause-reader_splits : goal.returns-clause-reader_splits
returns-clause-reader_splits c = reader_is_split

pub returns-clause-reader_joins : goal.returns-clause-reader_joins
returns-clause-reader_joins c = reader_is_joined

pub returns-clause-heap : goal.returns-clause-heap
returns-clause-heap c = heap_is_of_no_account
