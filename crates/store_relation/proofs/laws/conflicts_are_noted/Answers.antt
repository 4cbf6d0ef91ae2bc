use Rattle.store_relation.proofs.MeetLemmas.{looked_made, dropper_removed, meets_word, meets_stamp, sights, later_found}
use Rattle.store_relation.proofs.LearnLemmas.{meets_look}
use Rattle.store_relation.proofs.laws.conflicts_are_noted.Goals as goal

pub returns-clause-made : goal.returns-clause-made
returns-clause-made c = λ z word pass j rows clock s. looked_made s

pub returns-clause-word : goal.returns-clause-word
returns-clause-word c = λ z word pass j rows clock s. meets_word s

pub returns-clause-stamp : goal.returns-clause-stamp
returns-clause-stamp c = λ z word pass j rows clock s. meets_stamp s

pub returns-clause-look : goal.returns-clause-look
returns-clause-look c = λ z word pass j rows clock s. meets_look s

pub returns-clause-holder : goal.returns-clause-holder
returns-clause-holder c = λ z word pass j rows clock s. sights s

pub returns-clause-later : goal.returns-clause-later
returns-clause-later c = λ z word pass j rows clock s. λ m is. later_found z.kind j m is s.store.transactions.legal

pub returns-clause-dropped : goal.returns-clause-dropped
returns-clause-dropped c = λ z word pass j rows clock s. dropper_removed s
