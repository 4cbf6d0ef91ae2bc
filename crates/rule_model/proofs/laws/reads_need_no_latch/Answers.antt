use Rattle.rule_model.proofs.BlockStepLemmas.{read_begins, word_is_read, read_ends, reader_read_ends}
use Rattle.rule_model.proofs.laws.reads_need_no_latch.Goals as goal

pub returns-clause-first : goal.returns-clause-first
returns-clause-first c = read_begins

pub returns-clause-word : goal.returns-clause-word
returns-clause-word c = word_is_read

pub returns-clause-second : goal.returns-clause-second
returns-clause-second c = read_ends

pub returns-clause-reader : goal.returns-clause-reader
returns-clause-reader c = reader_read_ends
