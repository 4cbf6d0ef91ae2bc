-- The failures of one kind, as a desk counts them
use Rattle.std.specs.Prelude.{ℕ, List, Option, option_map}
use Rattle.std.specs.String.{string_bytes}
use Rattle.desk_io.specs.declared.faults.Faults.{Faults}

-- the name that the last of them was of
abbrev pub last_name : Faults → Option (List ℕ)
last_name faults = option_map string_bytes faults.last
