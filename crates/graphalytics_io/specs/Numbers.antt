-- Fields that are numbers.
use Rattle.std.specs.Prelude.{ℕ, Bool, false, cond, nat_le, ◌&&◌, List, [], ◌∷◌, Result, Ok, Err, Option, None, Some, SomeIff, ◌+◌, ◌*◌, ◌^◌, ◌<◌, ◌≤◌, ◌≡◌}
use Rattle.std.specs.List.{list_all}
use Rattle.std.specs.Str.Parse.{digits_value}
use Rattle.graphalytics_io.specs.declared.number.NumberFault.{NumberFault}
use Rattle.graphalytics_io.specs.declared.number.NumberFault.TheVariants.{NotANumber, TooLarge}

abbrev pub is_digit : ℕ → Bool
is_digit byte = nat_le 48 byte && nat_le byte 57

-- one or more ASCII digits
abbrev pub is_number : List ℕ → Bool
is_number [] = false
is_number (byte ∷ field) = list_all is_digit (byte ∷ field)

-- what a number stands for
abbrev pub number_of : List ℕ → ℕ
number_of field = digits_value 10 field

-- what a field stands for where it is a number up to a limit
abbrev pub number_within : ℕ → List ℕ → Result ℕ NumberFault
number_within limit field =
    cond (is_number field)
    (cond (nat_le (number_of field) limit) (Ok (number_of field)) (Err TooLarge))
    (Err NotANumber)

-- the number with one more digit, or that it is `2 ^ 64` or more
abbrev pub WithDigit : Option ℕ → ℕ → Option ℕ → Type 0
WithDigit None digit result = result ≡ None
WithDigit (Some number) digit result = SomeIff result (number * 10 + digit < 2 ^ 64) (number * 10 + digit)

-- the digits stand for the number, or for one of `2 ^ 64` or more
abbrev pub HasValue : List ℕ → Option ℕ → Type 0
HasValue digits None = 2 ^ 64 ≤ number_of digits
HasValue digits (Some number) = number_of digits ≡ number
