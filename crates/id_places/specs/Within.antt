-- Numbers by their size.
use Rattle.std.specs.Prelude.{ℕ, Bool, ◌&&◌, nat_le, List}
use Rattle.std.specs.List.{filter}

-- the number is from one on and up to another
abbrev pub is_within : ℕ → ℕ → ℕ → Bool
is_within low last n = nat_le low n && nat_le n last

-- those of the numbers, in their order
abbrev pub numbers_within : ℕ → ℕ → List ℕ → List ℕ
numbers_within low last ns = filter (is_within low last) ns
