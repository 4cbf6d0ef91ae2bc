use Rattle.command_words.proofs.WordLemmas.{taken_once}
use Rattle.command_words.proofs.laws.words_ask_for_one_request.Goals as goal

pub returns : goal.returns
returns c = taken_once
