use Rattle.std.proofs.Common.{◌≡◌, ◌++◌, ◌+◌, ◌*◌}
use Rattle.rule_model.specs.EndSteps.{zeros, new_blocks}
use Rattle.store_words.proofs.accounts.words_of.Given as goal

abbrev pub invariant-cells : goal.invariant-cells
invariant-cells l = l.words.items ≡ zeros (16 + 16 * l.config.passes) ++ new_blocks 0 l.cell
