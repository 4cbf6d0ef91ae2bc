use Rattle.rule_model.proofs.PlaceLemmas.{clock_is_stored, pass_is_stored, pin_is_stored, block_word_is_stored, lines_keep_apart}
use Rattle.rule_model.proofs.laws.words_have_places.Goals as goal

pub returns-clause-clock : goal.returns-clause-clock
returns-clause-clock c = clock_is_stored

pub returns-clause-pass : goal.returns-clause-pass
returns-clause-pass c = pass_is_stored

pub returns-clause-pin : goal.returns-clause-pin
returns-clause-pin c = pin_is_stored

pub returns-clause-block : goal.returns-clause-block
returns-clause-block c = block_word_is_stored

pub returns-clause-lines : goal.returns-clause-lines
returns-clause-lines c = lines_keep_apart
