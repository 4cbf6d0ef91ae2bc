-- Which open transaction has written something.
use Rattle.std.specs.Prelude.{ℕ, ◌==◌, cond, length, Option, None}
use Rattle.graph_model.specs.OwnerCalls.{PassState}

-- the start of the open transaction of a pass, where it has written something
abbrev pub writing_since : PassState → Option ℕ
writing_since s = cond (length s.own == 0) None s.start
