use Rattle.std.proofs.Common.{refl}
use Rattle.command_words.proofs.NumberLemmas.{no_plus}
use Rattle.command_words.proofs.number.read_number.Goals as goal

pub returns-then-has_plus-clause-none : goal.returns-then-has_plus-clause-none
returns-then-has_plus-clause-none c = λ number is. no_plus c.args.text.now (c.if-has_plus.ensures.0 refl) is.digits
