-- A list with the room that is left for more.
use Rattle.std.specs.Prelude.{ℕ, List}

pub record WithRoom (T : Type 0) : Type 0 where
  pub items : List T
  -- how many may be put at the end with no memory taken
  pub spare : ℕ
