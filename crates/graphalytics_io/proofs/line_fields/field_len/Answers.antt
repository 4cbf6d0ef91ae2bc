use Rattle.std.proofs.Common.{sym}
use Rattle.graphalytics_io.proofs.FieldsLemmas.{position_none}
use Rattle.graphalytics_io.proofs.line_fields.field_len.Goals as goal

pub returns-in-None-clause-place : goal.returns-in-None-clause-place
returns-in-None-clause-place c = sym (position_none _ _ c.in-None.ensures)
