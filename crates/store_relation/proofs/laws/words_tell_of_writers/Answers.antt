use Rattle.store_relation.proofs.LearnLemmas.{tells, stamp_is_place}
use Rattle.store_relation.proofs.WordLemmas.{told_by_looks, looks_tell_row}
use Rattle.store_relation.proofs.laws.words_tell_of_writers.Goals as goal

pub returns-clause-word : goal.returns-clause-word
returns-clause-word c = λ z word pass j rows clock s. tells s

pub returns-clause-looks : goal.returns-clause-looks
returns-clause-looks c = λ z word pass j rows clock s. told_by_looks j

pub returns-clause-row : goal.returns-clause-row
returns-clause-row c = λ z word pass j rows clock s. looks_tell_row j

pub returns-clause-stamp : goal.returns-clause-stamp
returns-clause-stamp c = λ z word pass j rows clock s. stamp_is_place s
