use Rattle.std.proofs.Common.{◌≡◌, ◌++◌}
use Rattle.rule_model.specs.EndSteps.{zeros}
use Rattle.store_words.proofs.accounts.push_zeros.Given as goal

abbrev pub invariant-zeros : goal.invariant-zeros
invariant-zeros l = l.words.items ≡ l.initial.words.items ++ zeros l._word
