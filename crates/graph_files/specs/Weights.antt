-- Weights (LDBC Graphalytics, `.e`): decimals, in units of a power of ten.
use Rattle.std.specs.Prelude.{ℕ, ◌+◌, ◌-◌, ◌*◌, ◌^◌, ◌≤◌, ⊤, Bool, ◌==◌, ◌&&◌, not, cond, nat_le, List, ◌++◌, length, take, drop, Result, Ok, Err}
use Rattle.std.specs.List.{before_first, after_first, list_all}
use Rattle.graph_model.specs.declared.limits.TheConstants.{MAX_WEIGHT}
use Rattle.graphalytics_io.specs.Numbers.{is_number, number_of}
use Rattle.graph_files.specs.declared.refusal.What.{What}
use Rattle.graph_files.specs.declared.refusal.What.TheVariants.{NotANumber, WeightTooFine, WeightTooLarge}
use Rattle.graph_files.specs.declared.weights.Weights.{Weights}
use Rattle.graph_files.specs.declared.weights.Weights.TheVariants.{Ones, Units}

abbrev pub is_point : ℕ → Bool
is_point byte = byte == 46

abbrev pub is_zero : ℕ → Bool
is_zero byte = byte == 48

-- the digits before the point
abbrev pub whole_part : List ℕ → List ℕ
whole_part field = before_first is_point field

-- the digits behind the point
abbrev pub fraction_part : List ℕ → List ℕ
fraction_part field = after_first is_point field

-- digits, a point and digits: the point may be missing, or the digits on one side of it
abbrev pub is_decimal : List ℕ → Bool
is_decimal field = is_number (whole_part field ++ fraction_part field)

-- the first digits of a fraction, so many, filled up with zeros
abbrev pub fraction_units : ℕ → List ℕ → ℕ
fraction_units digits fraction = number_of (take digits fraction) * 10 ^ (digits - length fraction)

-- what a decimal stands for, in units with so many digits behind the point
abbrev pub units_of : ℕ → List ℕ → ℕ
units_of digits field = number_of (whole_part field) * 10 ^ digits + fraction_units digits (fraction_part field)

-- behind the first digits of its fraction, so many, stand zeros alone
abbrev pub is_in_units : ℕ → List ℕ → Bool
is_in_units digits field = list_all is_zero (drop digits (fraction_part field))

-- the weight of a field in these units; where digits are cut, those behind the last that is read may be any
abbrev pub decimal_of : ℕ → Bool → List ℕ → Result ℕ What
decimal_of digits cut field =
    cond (is_decimal field)
    (cond (not cut && not (is_in_units digits field)) (Err WeightTooFine)
    (cond (nat_le (units_of digits field) MAX_WEIGHT) (Ok (units_of digits field)) (Err WeightTooLarge)))
    (Err NotANumber)

-- at most nine digits behind the point are read
abbrev pub AreReadable : Weights → Type 0
AreReadable Ones = ⊤
AreReadable (Units digits cut) = digits ≤ 9
