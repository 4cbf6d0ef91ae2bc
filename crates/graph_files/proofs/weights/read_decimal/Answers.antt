use Rattle.std.proofs.Common.{sym, ◌∙◌}
use Rattle.graphalytics_io.specs.Numbers.{is_digit}
use Rattle.graph_files.proofs.WeightLemmas.{parts_are_digits, all_take}
use Rattle.graph_files.proofs.weights.read_decimal.Goals as goal

pub units_of-requires-clause-whole : goal.units_of-requires-clause-whole
units_of-requires-clause-whole c = (parts_are_digits c.parts_of.result.0.now c.parts_of.result.1.now (sym c.are_parts.ensures ∙ c.if-not-are_parts.false)).0

pub units_of-requires-clause-fraction : goal.units_of-requires-clause-fraction
units_of-requires-clause-fraction c =
    let digits = parts_are_digits c.parts_of.result.0.now c.parts_of.result.1.now (sym c.are_parts.ensures ∙ c.if-not-are_parts.false) in
    rw c.split_at.ensures.front (all_take is_digit _ c.parts_of.result.1.now digits.1)
