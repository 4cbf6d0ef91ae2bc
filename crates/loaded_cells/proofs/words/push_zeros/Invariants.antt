use Rattle.std.proofs.Common.{◌≡◌, ◌++◌}
use Rattle.rule_model.specs.EndSteps.{zeros}
use Rattle.loaded_cells.proofs.words.push_zeros.Given as goal

abbrev pub invariant-zeros : goal.invariant-zeros
invariant-zeros l = l.words.items ≡ l.initial.words.items ++ zeros l._word
