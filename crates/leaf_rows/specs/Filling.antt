-- Rows of a load, counted by their keys. Only the crate itself speaks of them.
use Rattle.std.specs.Prelude.{ℕ, ◌+◌, cond, sum_by, List, Option, Some, None}
use Rattle.graph_model.specs.declared.row.Key.{Key}
use Rattle.graph_model.specs.declared.row.Row.{Row}
use Rattle.graph_model.specs.Effects.{same_key}

-- how many rows have this key
abbrev pub times : Key → List Row → ℕ
times q rows = sum_by (λ r. cond (same_key q r.key) 1 0) rows

-- a value as a number, where 0 stands for none
abbrev pub code : Option ℕ → ℕ
code None = 0
code (Some weight) = weight + 1

-- the code of what rows have at this key, no two of which have it
abbrev pub code_at : Key → List Row → ℕ
code_at q rows = sum_by (λ r. cond (same_key q r.key) (r.weight + 1) 0) rows
