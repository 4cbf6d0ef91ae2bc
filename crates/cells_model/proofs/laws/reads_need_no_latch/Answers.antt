use Rattle.cells_model.proofs.ReadLemmas.{first_load_begins, word_load_goes_on, second_load_goes_on, second_load_validates}
use Rattle.cells_model.proofs.laws.reads_need_no_latch.Goals as goal

pub returns-clause-first : goal.returns-clause-first
returns-clause-first c = first_load_begins

pub returns-clause-word : goal.returns-clause-word
returns-clause-word c = word_load_goes_on

pub returns-clause-second : goal.returns-clause-second
returns-clause-second c = second_load_goes_on

pub returns-clause-validates : goal.returns-clause-validates
returns-clause-validates c = second_load_validates
