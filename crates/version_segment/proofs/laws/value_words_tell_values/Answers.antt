use Rattle.version_segment.proofs.WordLemmas.{words_are, words_tell}
use Rattle.version_segment.proofs.laws.value_words_tell_values.Goals as goal

pub returns-clause-numbers : goal.returns-clause-numbers
returns-clause-numbers c = words_are

pub returns-clause-tell : goal.returns-clause-tell
returns-clause-tell c = words_tell
