use Rattle.std.proofs.Common.{sym, ◌∙◌}
use Rattle.graph_files.proofs.WeightLemmas.{parts_number, no_whole, no_fraction}
use Rattle.graph_files.proofs.weights.are_parts.Goals as goal
use Rattle.graph_files.proofs.weights.are_parts.Goals.{then-not-are_digits-via-then-not-are_digits, then-not-are_digits-via-else-not-are_digits+then-not-are_digits-2}

pub returns-then-not-are_digits : goal.returns-then-not-are_digits
returns-then-not-are_digits c = elim c.then-not-are_digits.branch [
  | then-not-are_digits-via-then-not-are_digits w ↦ sym (no_whole c.args.whole.now c.args.fraction.now (sym c.are_digits.ensures ∙ w.if-not-are_digits.true))
  | then-not-are_digits-via-else-not-are_digits+then-not-are_digits-2 w ↦ sym (no_fraction c.args.whole.now c.args.fraction.now (sym c.are_digits.ensures ∙ w.if-not-are_digits.false) (sym w.are_digits-else-not-are_digits.ensures ∙ w.if-not-are_digits-2.true))
]

pub returns : goal.returns
returns c = sym (parts_number c.args.whole.now c.args.fraction.now (sym c.are_digits.ensures ∙ c.if-not-are_digits.false) (sym c.are_digits-else-not-are_digits.ensures ∙ c.if-not-are_digits-2.false))
