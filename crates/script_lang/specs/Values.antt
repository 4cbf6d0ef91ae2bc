-- What the fields of a line say.
use Rattle.std.specs.Prelude.{ℕ, List, [], ◌∷◌}
use Rattle.graphalytics_io.specs.Numbers.{number_of}
use Rattle.script_lang.specs.declared.word.FieldKind.{FieldKind}
use Rattle.script_lang.specs.declared.word.FieldKind.TheVariants.{Vertex, Target, Weight, OptionalWeight, Rounds, Width, File}

-- a value for each kind of field
pub record Values : Type 0 where
  pub vertex : ℕ
  pub target : ℕ
  pub weight : ℕ
  pub rounds : ℕ
  pub width : ℕ
  pub file : List ℕ

-- the values of a line without fields: a weight that is missing is 1
abbrev pub no_values : Values
no_values = record { vertex = 0; target = 0; weight = 1; rounds = 0; width = 1; file = [] }

-- the values with that of one more field
abbrev pub with_value : Values → FieldKind → List ℕ → Values
with_value values Vertex field = record values { vertex = number_of field }
with_value values Target field = record values { target = number_of field }
with_value values Weight field = record values { weight = number_of field }
with_value values OptionalWeight field = record values { weight = number_of field }
with_value values Rounds field = record values { rounds = number_of field }
with_value values Width field = record values { width = number_of field }
with_value values File field = record values { file = field }

-- the values with those of these fields, each of its kind
abbrev pub with_values : Values → List FieldKind → List (List ℕ) → Values
with_values values [] fields = values
with_values values (kind ∷ kinds) [] = values
with_values values (kind ∷ kinds) (field ∷ fields) = with_values (with_value values kind field) kinds fields
