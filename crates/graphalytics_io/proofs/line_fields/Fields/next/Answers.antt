use Rattle.std.proofs.Common.{sym, ◌∙◌}
use Rattle.graphalytics_io.proofs.FieldsLemmas.{has_field, has_no_field}
use Rattle.graphalytics_io.proofs.line_fields.Fields.next.Goals as goal

pub returns-then-is_empty : goal.returns-then-is_empty
returns-then-is_empty c =
    has_no_field c.self.inside.rest.now c.split_at.result.1.now c.split_at-2.result.0.now c.split_at-2.result.1.now _
    c.self.view_is (rw c.blanks_len.ensures.place at c.split_at.ensures.back)
    (rw c.field_len.ensures.place at c.split_at-2.ensures.front)
    (rw c.field_len.ensures.place at c.split_at-2.ensures.back)
    (sym c.is_empty.ensures ∙ c.if-is_empty.true)

pub returns : goal.returns
returns c =
    has_field c.self.inside.rest.now c.split_at.result.1.now c.split_at-2.result.0.now c.split_at-2.result.1.now _
    c.self.view_is (rw c.blanks_len.ensures.place at c.split_at.ensures.back)
    (rw c.field_len.ensures.place at c.split_at-2.ensures.front)
    (rw c.field_len.ensures.place at c.split_at-2.ensures.back)
    (sym c.is_empty.ensures ∙ c.if-is_empty.false)
