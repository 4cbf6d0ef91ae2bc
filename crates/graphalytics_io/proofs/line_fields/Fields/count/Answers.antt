use Rattle.std.proofs.Common.{ℕ, List, length, ap, arith}
use Rattle.graphalytics_io.proofs.FieldsLemmas.{few_fields}
use Rattle.graphalytics_io.proofs.line_fields.Fields.count.Goals as goal

pub overflow_add-count : goal.overflow_add-count
overflow_add-count c =
    let all = ap (length {A = List ℕ}) c.self.view_is in
    omega (arith, all, few_fields c.self.inside.rest.now, c.fields.invariant)
