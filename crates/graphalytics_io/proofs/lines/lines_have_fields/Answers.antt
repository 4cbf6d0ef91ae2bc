use Rattle.graphalytics_io.specs.Fields.{lines_of}
use Rattle.graphalytics_io.proofs.FieldsLemmas.{numbered_fields}
use Rattle.graphalytics_io.proofs.lines.lines_have_fields.Goals as goal

pub returns : goal.returns
returns c = λ text. numbered_fields 0 (lines_of text)
