use Rattle.store_relation.proofs.KeyLemmas.{done_none, done_next, done_all}
use Rattle.store_relation.proofs.GrowLemmas.{rows_grow, row_stays, touched_something}
use Rattle.store_relation.proofs.laws.segments_change_by_key.Goals as goal

pub returns-clause-none : goal.returns-clause-none
returns-clause-none c = done_none

pub returns-clause-more : goal.returns-clause-more
returns-clause-more c = done_next

pub returns-clause-all : goal.returns-clause-all
returns-clause-all c = done_all

pub returns-clause-grow : goal.returns-clause-grow
returns-clause-grow c = rows_grow

pub returns-clause-stay : goal.returns-clause-stay
returns-clause-stay c = row_stays

pub returns-clause-touched : goal.returns-clause-touched
returns-clause-touched c = touched_something
