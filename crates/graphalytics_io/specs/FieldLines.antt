-- The lines of a text that say something.
use Rattle.std.specs.Prelude.{ℕ, ◌+◌, ◌<◌, length, All, ◌==◌, ◌||◌, Bool, cond, List, [], ◌∷◌, slice_index}
use Rattle.std.specs.List.{list_all}
use Rattle.graphalytics_io.specs.declared.lines.FieldLine.{FieldLine}
use Rattle.graphalytics_io.specs.Fields.{is_blank, fields_of, lines_of, without_return}

-- the first byte is `#`
abbrev pub is_comment : List ℕ → Bool
is_comment line = slice_index line 0 == 35

-- a line that says nothing: it is a comment, or has only blanks
abbrev pub is_passed_over : List ℕ → Bool
is_passed_over line = is_comment line || list_all is_blank line

-- a line in front of the others, unless it says nothing
abbrev pub line_before : ℕ → List ℕ → List FieldLine → List FieldLine
line_before number line lines =
    cond (is_passed_over line) lines (record { number = number; fields = fields_of line } ∷ lines)

-- the lines that say something, with their numbers; so many lines stood before them
abbrev pub numbered : ℕ → List (List ℕ) → List FieldLine
numbered before [] = []
numbered before (line ∷ lines) = line_before (before + 1) (without_return line) (numbered (before + 1) lines)

-- the lines of a text that say something; all of its lines are counted, from 1
abbrev pub field_lines : List ℕ → List FieldLine
field_lines text = numbered 0 (lines_of text)

-- each of these lines has fields
abbrev pub LinesHaveFields : Type 0
LinesHaveFields = (text : List ℕ) → All (λ line. 0 < length line.fields) (field_lines text)
