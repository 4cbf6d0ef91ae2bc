-- Words that are numbers.
use Rattle.std.specs.Prelude.{◌≡◌, ◌≤◌, ℕ, List, length, Option, Some, None}
use Rattle.std.specs.Str.Parse.{IsNumeral, digits_value}

-- the text is 1 to 20 ASCII digits, and its value is in the range
pub record IsNumber (least most : ℕ) (text : List ℕ) (number : ℕ) : Type 0 where
  pub digits : IsNumeral 10 text
  pub count : length text ≤ 20
  pub value : digits_value 10 text ≡ number
  pub low : least ≤ number
  pub high : number ≤ most

-- the text of an option that has to be given is a number
abbrev pub HasNumber : ℕ → ℕ → Option (List ℕ) → ℕ → Type 0
HasNumber least most None number = ⊥
HasNumber least most (Some text) number = IsNumber least most text number

-- the same of an option that may be left out
abbrev pub IsOptionalNumber : ℕ → ℕ → Option (List ℕ) → Option ℕ → Type 0
IsOptionalNumber least most None number = number ≡ None
IsOptionalNumber least most (Some text) None = ⊥
IsOptionalNumber least most (Some text) (Some number) = IsNumber least most text number
