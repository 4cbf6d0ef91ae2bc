-- The faults of fields.
use Rattle.std.specs.Prelude.{ℕ, ◌≤◌, Bool, false, ◌==◌, cond, nat_le, ◌&&◌, List, [], ◌∷◌, Option, None, Some, Result, Ok, Err}
use Rattle.std.specs.List.{list_all, list_any}
use Rattle.std.specs.Option.{option_or}
use Rattle.std.specs.Str.{bytes_eq}
use Rattle.graph_model.specs.declared.limits.TheConstants.{MAX_ID, MAX_WEIGHT, MAX_ROUNDS}
use Rattle.graphalytics_io.specs.declared.number.NumberFault.{NumberFault}
use Rattle.graphalytics_io.specs.declared.number.NumberFault.TheVariants as numbers
use Rattle.graphalytics_io.specs.Numbers.{number_within, number_of}
use Rattle.script_lang.specs.declared.refusal.ScriptWhat.{ScriptWhat}
use Rattle.script_lang.specs.declared.refusal.ScriptWhat.TheVariants.{NotANumber, IdTooLarge, WeightTooLarge, RoundsTooLarge, WidthOutOfRange, BadName, NameTwice}
use Rattle.script_lang.specs.declared.arguments.TheConstants.{MAX_WIDTH}
use Rattle.script_lang.specs.declared.word.FieldKind.{FieldKind}
use Rattle.script_lang.specs.declared.word.FieldKind.TheVariants.{Vertex, Target, Weight, OptionalWeight, Rounds, Width, File}
use Rattle.script_lang.specs.Faults.{earlier}

-- the fault of a field that was read as a number; `above` is that of a number above the limit
abbrev pub fault_of : ScriptWhat → Result ℕ NumberFault → Option ScriptWhat
fault_of above (Ok number) = None
fault_of above (Err numbers.NotANumber) = Some NotANumber
fault_of above (Err numbers.TooLarge) = Some above

-- printable ASCII, and no blank
abbrev pub IsNameByte : ℕ → Type 0
IsNameByte byte = (33 ≤ byte) × (byte ≤ 126)

abbrev pub is_name_byte : ℕ → Bool
is_name_byte byte = nat_le 33 byte && nat_le byte 126

-- one or more such bytes
abbrev pub is_file_name : List ℕ → Bool
is_file_name [] = false
is_file_name (byte ∷ file) = list_all is_name_byte (byte ∷ file)

-- the file is one of the names
abbrev pub is_among : List (List ℕ) → List ℕ → Bool
is_among names file = list_any (bytes_eq file) names

-- the fault of a file name where these are taken
abbrev pub file_fault : List (List ℕ) → List ℕ → Option ScriptWhat
file_fault taken file = cond (is_file_name file) (cond (is_among taken file) (Some NameTwice) None) (Some BadName)

-- the fault of a width: no number, 0, or above the greatest
abbrev pub width_fault : List ℕ → Option ScriptWhat
width_fault field = option_or (fault_of WidthOutOfRange (number_within MAX_WIDTH field))
    (cond (number_of field == 0) (Some WidthOutOfRange) None)

-- the fault of a field of some kind
abbrev pub field_fault : List (List ℕ) → FieldKind → List ℕ → Option ScriptWhat
field_fault taken Vertex field = fault_of IdTooLarge (number_within MAX_ID field)
field_fault taken Target field = fault_of IdTooLarge (number_within MAX_ID field)
field_fault taken Weight field = fault_of WeightTooLarge (number_within MAX_WEIGHT field)
field_fault taken OptionalWeight field = fault_of WeightTooLarge (number_within MAX_WEIGHT field)
field_fault taken Rounds field = fault_of RoundsTooLarge (number_within MAX_ROUNDS field)
field_fault taken Width field = width_fault field
field_fault taken File field = file_fault taken field

-- of the faults of the fields, the one whose check comes first
abbrev pub fields_fault : List (List ℕ) → List FieldKind → List (List ℕ) → Option ScriptWhat
fields_fault taken [] fields = None
fields_fault taken (kind ∷ kinds) [] = None
fields_fault taken (kind ∷ kinds) (field ∷ fields) =
    earlier (field_fault taken kind field) (fields_fault taken kinds fields)
