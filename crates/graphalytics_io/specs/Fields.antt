-- Texts that are cut into lines, and lines into fields.
use Rattle.std.specs.Prelude.{ℕ, ◌-◌, ◌==◌, ◌||◌, Bool, true, false, cond, List, [], ◌∷◌, length, take, slice_index}
use Rattle.std.specs.List.{onto_first, slice_split, filter}

abbrev pub is_line_feed : ℕ → Bool
is_line_feed byte = byte == 10

-- a space or a tab
abbrev pub is_blank : ℕ → Bool
is_blank byte = (byte == 32) || (byte == 9)

-- the lines of a text: it is cut at line feeds, and what stands behind the last one is a line where it isn't empty
abbrev pub lines_of : List ℕ → List (List ℕ)
lines_of [] = []
lines_of (byte ∷ text) = cond (is_line_feed byte) ([] ∷ lines_of text) (onto_first byte (lines_of text))

-- a line without the carriage return at its end, where it has one
abbrev pub without_return : List ℕ → List ℕ
without_return line = cond (slice_index line (length line - 1) == 13) (take (length line - 1) line) line

-- some bytes
abbrev pub is_some_part : List ℕ → Bool
is_some_part [] = false
is_some_part (byte ∷ part) = true

-- the fields of a line: what stands between its blanks
abbrev pub fields_of : List ℕ → List (List ℕ)
fields_of line = filter is_some_part (slice_split is_blank line)
