use Rattle.cells_model.proofs.ExampleLemmas.{word_examples, read_examples, note_examples}
use Rattle.cells_model.proofs.laws.examples_hold.Goals as goal

pub returns-clause-words : goal.returns-clause-words
returns-clause-words c = word_examples

pub returns-clause-reads : goal.returns-clause-reads
returns-clause-reads c = read_examples

pub returns-clause-notes : goal.returns-clause-notes
returns-clause-notes c = note_examples
