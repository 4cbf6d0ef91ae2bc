-- Decimals and their parts.
use Rattle.std.proofs.Common.{◌≡◌, ℕ, ◌+◌, ◌*◌, ◌^◌, ◌≤◌, Bool, true, false, ◌&&◌, List, [], ◌∷◌, ◌++◌, length, take, refl, sym, ap, ◌∙◌, zero, suc, nat_lt, arith}
use Rattle.std.specs.List.{list_all}
use Rattle.std.proofs.Math.Nat.{one-le-pow}
use Rattle.std.proofs.lemmas.Bool.Decides.{nat_tests}
use Rattle.std.proofs.lemmas.List.{length-append}
use Rattle.std.proofs.lemmas.List.Folds.{list_all-append}
use Rattle.graphalytics_io.specs.Numbers.{is_digit, is_number}

-- zeros behind a number make it no smaller
pub not_smaller : (n k : ℕ) → n ≤ n * 10 ^ k
not_smaller n k = let one = one-le-pow k 10 (omega arith) in grind (arith, one)

both_true : (s t : Bool) → (s && t) ≡ true → (s ≡ true) × (t ≡ true)
both_true true t e = (refl, e)
both_true false t e = absurd (cc)

-- some digits are a number
digits_number : (digits : List ℕ) → list_all is_digit digits ≡ true → is_number digits ≡ nat_lt 0 (length digits)
digits_number [] each = refl
digits_number (byte ∷ digits) each = each ∙ some (length digits)
  where
    some : (n : ℕ) → true ≡ nat_lt 0 (suc n)
    some n = grind (arith, nat_tests)

number_digits : (digits : List ℕ) → is_number digits ≡ true → list_all is_digit digits ≡ true
number_digits [] is = cc
number_digits (byte ∷ digits) is = is

not_number : (digits : List ℕ) → list_all is_digit digits ≡ false → is_number digits ≡ false
not_number [] other = refl
not_number (byte ∷ digits) other = other

module _ (whole fraction : List ℕ) where
  -- the parts of a number are digits
  pub parts_are_digits : is_number (whole ++ fraction) ≡ true → (list_all is_digit whole ≡ true) × (list_all is_digit fraction ≡ true)
  parts_are_digits is = both_true _ _ (sym (list_all-append is_digit whole fraction) ∙ number_digits (whole ++ fraction) is)

  -- two parts are one where they are digits, and one of them at least has some
  pub parts_number : list_all is_digit whole ≡ true → list_all is_digit fraction ≡ true → is_number (whole ++ fraction) ≡ nat_lt 0 (length whole + length fraction)
  parts_number first second =
      digits_number (whole ++ fraction) (list_all-append is_digit whole fraction ∙ ap (λ s. s && list_all is_digit fraction) first ∙ second)
      ∙ ap (nat_lt 0) (length-append whole fraction)

  pub no_whole : list_all is_digit whole ≡ false → is_number (whole ++ fraction) ≡ false
  no_whole other = not_number (whole ++ fraction) (list_all-append is_digit whole fraction ∙ ap (λ s. s && list_all is_digit fraction) other)

  pub no_fraction : list_all is_digit whole ≡ true → list_all is_digit fraction ≡ false → is_number (whole ++ fraction) ≡ false
  no_fraction first other = not_number (whole ++ fraction) (list_all-append is_digit whole fraction ∙ ap (λ s. s && list_all is_digit fraction) first ∙ other)

-- what holds of all items holds of the first
pub all_take : {X : Type 0} (p : X → Bool) (n : ℕ) (xs : List X) → list_all p xs ≡ true → list_all p (take n xs) ≡ true
all_take p zero xs each = refl
all_take p (suc n) [] each = refl
all_take p (suc n) (x ∷ xs) each =
    let parts = both_true (p x) (list_all p xs) each in
    ap (λ s. s && list_all p (take n xs)) parts.0 ∙ all_take p n xs parts.1
