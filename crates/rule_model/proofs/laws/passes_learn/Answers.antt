use Rattle.rule_model.proofs.NoteStepLemmas.{pass_learns, reader_learns, word_is_looked, look_is_kept, reader_looks}
use Rattle.rule_model.proofs.laws.passes_learn.Goals as goal

pub returns-clause-learn : goal.returns-clause-learn
returns-clause-learn c = pass_learns

pub returns-clause-reader_learns : goal.returns-clause-reader_learns
returns-clause-reader_learns c = reader_learns

pub returns-clause-look : goal.returns-clause-look
returns-clause-look c = word_is_looked

pub returns-clause-kept_look : goal.returns-clause-kept_look
returns-clause-kept_look c = look_is_kept

pub returns-clause-reader_looks : goal.returns-clause-reader_looks
returns-clause-reader_looks c = reader_looks
