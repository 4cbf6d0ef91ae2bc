-- Fields that are numbers.
use Rattle.std.proofs.Common.{◌≡◌, ℕ, ◌<◌, ◌≤◌, ◌+◌, ◌-◌, ◌*◌, ◌==◌, subst, take, Option, Some, None, true, false, nat_le, zero, suc, List, [], ◌∷◌, length, get_or, Ok, Err, refl, arith}
use Rattle.std.specs.Char.{digit_value, IsNotAsciiDigit}
use Rattle.std.specs.List.{list_all}
use Rattle.std.specs.Int.{IsInRange}
use Rattle.std.specs.Str.Parse.{AllDigits, digits_value}
use Rattle.std.proofs.lemmas.Bool.Decides.{nat_tests}
use Rattle.std.proofs.lemmas.List.{take_all}
use Rattle.std.proofs.lemmas.Str.{digit_value_digit}
use Rattle.std.proofs.lemmas.Str.Parse.{digit_from_value}
use Rattle.std.proofs.lemmas.Int.Digits.{digits_more, digits_value_more}
use Rattle.graphalytics_io.specs.declared.number.NumberFault.TheVariants.{NotANumber, TooLarge}
use Rattle.graphalytics_io.specs.Numbers.{is_digit, is_number, number_of, number_within, HasValue, WithDigit}

-- digits pass the test of each byte
each_digit : (digits : List ℕ) → AllDigits 10 digits → list_all is_digit digits ≡ true
each_digit [] each = refl
each_digit (byte ∷ digits) each =
    let range = digit_from_value byte each.0 in
    let more = each_digit digits each.1 in
    grind (arith, nat_tests, range, more)

-- some digits are a number
pub number_of_digits : (field : List ℕ) → 0 < length field → AllDigits 10 field → is_number field ≡ true
number_of_digits [] some each = absurd (omega arith)
number_of_digits (byte ∷ field) some each = each_digit (byte ∷ field) each

-- a byte that is no digit fails the test
other_byte : (field : List ℕ) (i : ℕ) → i < length field → IsNotAsciiDigit (get_or field i 0)
    → list_all is_digit field ≡ false
other_byte [] i within other = absurd (omega arith)
other_byte (byte ∷ field) zero within other = grind (arith, nat_tests, other)
other_byte (byte ∷ field) (suc i) within other =
    let more = other_byte field i (omega arith) other in
    grind (arith, nat_tests, more)

-- and so a field with such a byte is no number
pub no_number : (field : List ℕ) (i : ℕ) → i < length field → IsNotAsciiDigit (get_or field i 0)
    → is_number field ≡ false
no_number [] i within other = absurd (omega arith)
no_number (byte ∷ field) i within other = other_byte (byte ∷ field) i within other

-- one digit more
digit_more : (text : List ℕ) (i : ℕ) → i < length text → IsInRange 48 57 (get_or text i 0) → AllDigits 10 (take i text)
    → AllDigits 10 (take (i + 1) text)
    × (digits_value 10 (take (i + 1) text) ≡ digits_value 10 (take i text) * 10 + (get_or text i 0 - 48))
digit_more text i lt range each =
    let worth = digit_value_digit (get_or text i 0) range in
    let small : digit_value (get_or text i 0) < 10 = omega arith in
    (digits_more 10 text i lt each small, omega (arith, digits_value_more 10 text i lt))

-- the value of the digits so far, with the next one
pub value_more : (field : List ℕ) (i : ℕ) (value result : Option ℕ) → i < length field
    → IsInRange 48 57 (get_or field i 0) → AllDigits 10 (take i field) → HasValue (take i field) value
    → WithDigit value (get_or field i 0 - 48) result
    → AllDigits 10 (take (i + 1) field) × HasValue (take (i + 1) field) result
value_more field i value result within range each so_far digit =
    let next = digit_more field i within range each in
    (next.0, with_next value result so_far digit next.1)
  where
    with_next : (value result : Option ℕ) → HasValue (take i field) value
        → WithDigit value (get_or field i 0 - 48) result
        → number_of (take (i + 1) field) ≡ number_of (take i field) * 10 + (get_or field i 0 - 48)
        → HasValue (take (i + 1) field) result
    with_next None None large digit sum = omega (arith, large, sum)
    with_next None (Some n) large digit sum = absurd (cc)
    with_next (Some m) None same digit sum = omega (arith, same, digit, sum)
    with_next (Some m) (Some n) same digit sum = omega (arith, same, digit, sum)

-- once all bytes are read, the field is a number with that value
pub whole_number : (field : List ℕ) (i : ℕ) (value : Option ℕ) → (length field == 0) ≡ false → length field ≤ i
    → AllDigits 10 (take i field) → HasValue (take i field) value → (is_number field ≡ true) × HasValue field value
whole_number field i value some end each so_far =
    let all = take_all i field end in
    let number = number_of_digits field (grind (arith, nat_tests, some)) (subst (AllDigits 10) all each) in
    (number, subst (λ digits. HasValue digits value) all so_far)

module _ (limit : ℕ) (field : List ℕ) where
  -- the three answers of a reader
  pub reads_number : (n : ℕ) → is_number field ≡ true → number_of field ≡ n → n ≤ limit
      → Ok n ≡ number_within limit field
  reads_number n number same within =
      let fits : nat_le (number_of field) limit ≡ true = grind (arith, nat_tests, same) in
      rw (number, fits, same) refl

  pub reads_large : is_number field ≡ true → limit < number_of field → Err TooLarge ≡ number_within limit field
  reads_large number above =
      let large : nat_le (number_of field) limit ≡ false = grind (arith, nat_tests) in
      rw (number, large) refl

  pub reads_other : is_number field ≡ false → Err NotANumber ≡ number_within limit field
  reads_other other = rw other refl
