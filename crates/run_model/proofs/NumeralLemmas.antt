-- Decimals: their digits, and the number that they tell.
use Rattle.std.proofs.Common.{◌≡◌, ℕ, ◌+◌, ◌*◌, ◌<◌, List, [], ◌∷◌, ◌++◌, refl, sym, ◌∙◌, ap, arith}
use Rattle.std.specs.Prelude.{Bool, cond, decimal, length, Option, Some, None}
use Rattle.std.specs.List.{flat_map}
use Rattle.std.specs.Str.Parse.{AllDigits, digits_value, digits_value_after}
use Rattle.std.specs.Char.{digit_value, is_digit}
use Rattle.std.proofs.lemmas.Fmt.{decimal_is_IsNumeral_wide}
use Rattle.std.proofs.lemmas.List.{append-nil}
use Rattle.std.proofs.lemmas.Bool.{lt-ltb}
use Rattle.run_model.specs.Texts.{field}
use Rattle.run_model.specs.Laws.{IsShort}
use Rattle.std.specs.List.{AllByRecursion}

-- numbers with one decimal are equal
pub decimal_tells : (m n : ℕ) → IsShort m → IsShort n → decimal m ≡ decimal n → m ≡ n
decimal_tells m n short_m short_n e = sym (decimal_is_IsNumeral_wide m short_m).1 ∙ ap (digits_value 10) e ∙ (decimal_is_IsNumeral_wide n short_n).1

-- The numbers of a text, in order: each run of digits is one. The first argument is the number
-- whose digits have begun.
abbrev pub numbers_on : Option ℕ → List ℕ → List ℕ
numbers_on None [] = []
numbers_on None (c ∷ cs) = cond (is_digit c 10) (numbers_on (Some (0 * 10 + digit_value c)) cs) (numbers_on None cs)
numbers_on (Some n) [] = n ∷ []
numbers_on (Some n) (c ∷ cs) = cond (is_digit c 10) (numbers_on (Some (n * 10 + digit_value c)) cs) (n ∷ numbers_on None cs)

-- digits go on with the number that has begun
digits_go_on : (ds rest : List ℕ) (n : ℕ) → AllDigits 10 ds → numbers_on (Some n) (ds ++ rest) ≡ numbers_on (Some (digits_value_after 10 n ds)) rest
digits_go_on [] rest n all = refl
digits_go_on (c ∷ cs) rest n all =
    ap (λ (b : Bool). cond b (numbers_on (Some (n * 10 + digit_value c)) (cs ++ rest)) (n ∷ numbers_on None (cs ++ rest))) (lt-ltb (digit_value c) 10 all.0)
    ∙ digits_go_on cs rest (n * 10 + digit_value c) all.1

-- and begin one
digits_begin : (ds rest : List ℕ) → 0 < length ds → AllDigits 10 ds → numbers_on None (ds ++ rest) ≡ numbers_on (Some (digits_value 10 ds)) rest
digits_begin [] rest some all = absurd (omega arith)
digits_begin (c ∷ cs) rest some all =
    ap (λ (b : Bool). cond b (numbers_on (Some (0 * 10 + digit_value c)) (cs ++ rest)) (numbers_on None (cs ++ rest))) (lt-ltb (digit_value c) 10 all.0)
    ∙ digits_go_on cs rest (0 * 10 + digit_value c) all.1

-- a decimal in a text is its number
pub number_here : (n : ℕ) (rest : List ℕ) → IsShort n → numbers_on None (decimal n ++ rest) ≡ numbers_on (Some n) rest
number_here n rest short =
    let numeral = decimal_is_IsNumeral_wide n short in
    digits_begin (decimal n) rest numeral.0.0 numeral.0.1 ∙ ap (λ m. numbers_on (Some m) rest) numeral.1

-- and so is one at its end
pub number_last : (n : ℕ) → IsShort n → numbers_on None (decimal n) ≡ n ∷ []
number_last n short = ap (numbers_on None) (sym (append-nil (decimal n))) ∙ number_here n [] short

-- numbers behind blanks, behind another number
pub numbers_behind : (n : ℕ) (ns : List ℕ) → AllByRecursion IsShort ns → numbers_on (Some n) (flat_map field ns) ≡ n ∷ ns
numbers_behind n [] all = refl
numbers_behind n (m ∷ ms) all = ap (λ xs. n ∷ xs) (number_here m (flat_map field ms) all.0 ∙ numbers_behind m ms all.1)
