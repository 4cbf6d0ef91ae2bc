-- The text of a kernel's table (LDBC Graphalytics, output files): a line for each vertex.
use Rattle.std.specs.Prelude.{ℕ, List, [], ◌∷◌, ◌++◌, codes, decimal}
use Rattle.std.specs.List.{flat_map}
use Rattle.graph_model.specs.declared.table.Value.{Value}
use Rattle.graph_model.specs.declared.table.Value.TheVariants.{Number, Infinity}
use Rattle.graph_model.specs.declared.table.Entry.{Entry}

-- a number in decimal, or the word
abbrev pub value_text : Value → List ℕ
value_text (Number n) = decimal n
value_text Infinity = codes "infinity"

-- the vertex, a blank, the value, a line feed
abbrev pub entry_line : Entry → List ℕ
entry_line e = decimal e.vertex ++ (32 ∷ []) ++ value_text e.value ++ (10 ∷ [])

-- its lines, one behind the other
abbrev pub table_text : List Entry → List ℕ
table_text entries = flat_map entry_line entries
