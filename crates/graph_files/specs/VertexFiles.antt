-- What a vertex file (LDBC Graphalytics, `.v`) stands for: its ids, or its first fault.
use Rattle.std.specs.Prelude.{ℕ, cond, nat_le, List, [], ◌∷◌, ◌++◌, length, Result, Ok, Err}
use Rattle.graph_model.specs.declared.limits.TheConstants.{MAX_ID}
use Rattle.graphalytics_io.specs.declared.lines.FieldLine.{FieldLine}
use Rattle.graphalytics_io.specs.declared.number.NumberFault.{NumberFault}
use Rattle.graphalytics_io.specs.declared.number.NumberFault.TheVariants as numbers
use Rattle.graphalytics_io.specs.FieldLines.{field_lines}
use Rattle.graphalytics_io.specs.Numbers.{number_within}
use Rattle.graph_files.specs.declared.refusal.What.{What}
use Rattle.graph_files.specs.declared.refusal.What.TheVariants.{NotANumber, IdTooLarge, DuplicateVertex, MissingField, ExtraField, TooManyRows}
use Rattle.graph_files.specs.declared.refusal.Fault.{Fault}
use Rattle.graph_files.specs.Faults.{then_check, then_lines}
use Rattle.id_places.specs.Places.{is_among}

-- a field that was read as a number up to the greatest id
abbrev pub as_id : Result ℕ NumberFault → Result ℕ What
as_id (Ok number) = Ok number
as_id (Err numbers.NotANumber) = Err NotANumber
as_id (Err numbers.TooLarge) = Err IdTooLarge

-- the id of a field, or its fault
abbrev pub id_of : List ℕ → Result ℕ What
id_of field = as_id (number_within MAX_ID field)

-- an id behind those of the lines before it, where there may be so many
abbrev pub new_id : ℕ → List ℕ → ℕ → Result ℕ What
new_id limit before id =
    cond (is_among before id) (Err DuplicateVertex)
    (cond (nat_le limit (length before)) (Err TooManyRows) (Ok id))

-- the id of a line, or its fault, whatever the lines before it; no line is without fields
abbrev pub line_id : List (List ℕ) → Result ℕ What
line_id [] = Err MissingField
line_id (field ∷ []) = id_of field
line_id (field ∷ extra ∷ fields) = Err ExtraField

-- the id of a line behind the ids of the lines before it, or the line's fault
abbrev pub vertex_of : ℕ → List ℕ → List (List ℕ) → Result ℕ What
vertex_of limit before fields = then_check (line_id fields) (new_id limit before)

-- the ids of lines behind those of the lines before them, or the fault of the first line that has one
abbrev pub ids_behind : ℕ → List ℕ → List FieldLine → Result (List ℕ) Fault
ids_behind limit before [] = Ok before
ids_behind limit before (line ∷ lines) =
    then_lines line.number (vertex_of limit before line.fields) (λ id. ids_behind limit (before ++ id ∷ []) lines)

-- what a vertex file stands for where at most so many ids are taken
abbrev pub vertices_of : ℕ → List ℕ → Result (List ℕ) Fault
vertices_of limit text = ids_behind limit [] (field_lines text)
