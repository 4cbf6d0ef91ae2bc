-- Names by their places, and names that differ.
use Rattle.std.proofs.Common.{◌≡◌, ℕ, zero, suc, ◌+◌, ◌-◌, ◌<◌, ◌≤◌, List, [], ◌∷◌, ◌++◌, length, get_or, map, refl, sym, ◌∙◌, ap, subst, arith, eq-or-lt_of_le, inl, inr}
use Rattle.std.specs.Prelude.{true, ◌≢◌}
use Rattle.std.specs.Str.{bytes_eq}
use Rattle.std.proofs.lemmas.List.{get_or-map, length-map, get_or-append-add}
use Rattle.std.proofs.lemmas.Slice.Eq.{bytes_eq-Decides}
use Rattle.command_words.specs.Words.{report_name}

-- the test of two texts says whether they are equal
pub same_bytes : (x y : List ℕ) → bytes_eq x y ≡ true → x ≡ y
same_bytes x y is = (bytes_eq-Decides x y).0 is

-- one more index
pub up_to : (P : ℕ → Type 0) (low j : ℕ) → ((b : ℕ) → low < b → b < j → P b) → P j → (b : ℕ) → low < b → b < j + 1 → P b
up_to P low j below here b above lt = elim (eq-or-lt_of_le (let le : b ≤ j = omega arith in le)) as (λ _. P b) [ inl e ↦ subst P (sym e) here | inr l ↦ below b above l ]

-- ---- names by their places

-- an element behind the first three
pub three_behind : {X : Type 0} (a b c : X) (xs : List X) (n : ℕ) (d : X) → get_or (a ∷ b ∷ c ∷ xs) (n + 3) d ≡ get_or xs n d
three_behind a b c xs n d = let e : n + 3 ≡ suc (suc (suc n)) = omega arith in ap (λ m. get_or (a ∷ b ∷ c ∷ xs) m d) e

module _ {X : Type 0} (text : X → List ℕ) (xs : List X) (place : ℕ) (e : X) where
  -- behind the scripts' names stand those of their reports
  pub report_at : length xs ≤ place → place < length xs + length xs
      → get_or (map text xs ++ map report_name (map text xs)) place [] ≡ report_name (text (get_or xs (place - length xs) e))
  report_at low high =
      let n : ℕ = place - length xs in
      let lt : n < length xs = omega arith in
      let at : length (map text xs) + n ≡ place = omega (arith, length-map xs text) in
      ap (λ m. get_or (map text xs ++ map report_name (map text xs)) m []) (sym at)
      ∙ get_or-append-add (map text xs) (map report_name (map text xs)) n []
      ∙ get_or-map report_name (map text xs) n [] [] (omega (arith, length-map xs text))
      ∙ ap report_name (get_or-map text xs n e [] lt)

-- ---- names that differ

-- an element within a list is the same for any default
any_default : {X : Type 0} (xs : List X) (i : ℕ) (d e : X) → i < length xs → get_or xs i d ≡ get_or xs i e
any_default [] i d e lt = absurd (omega arith)
any_default (x ∷ xs) zero d e lt = refl
any_default (x ∷ xs) (suc i) d e lt = any_default xs i d e (omega arith)

module _ (names : List (List ℕ)) (i j : ℕ) (lt_i : i < length names) (lt_j : j < length names) where
  -- two texts that stand in a list at two places, and differ
  pub differ_at : (a b : List ℕ) → a ≡ get_or names i [] → b ≡ get_or names j [] → a ≢ b → (d : List ℕ) → get_or names i d ≢ get_or names j d
  differ_at a b at_i at_j differ d same =
      differ (at_i ∙ any_default names i [] d lt_i ∙ same ∙ any_default names j d [] lt_j ∙ sym at_j)

-- the names before place i differ from all behind them, and so does the one at i
pub more_firsts : (names : List (List ℕ)) (i j count : ℕ) → count ≤ j
    → ((a b : ℕ) (d : List ℕ) → a < i → a < b → b < count → get_or names a d ≢ get_or names b d)
    → ((b : ℕ) (d : List ℕ) → i < b → b < j → get_or names i d ≢ get_or names b d)
    → (a b : ℕ) (d : List ℕ) → a < i + 1 → a < b → b < count → get_or names a d ≢ get_or names b d
more_firsts names i j count all before here a b d lt above below =
    elim (eq-or-lt_of_le (let le : a ≤ i = omega arith in le)) as (λ _. get_or names a d ≢ get_or names b d) [
      | inl e ↦ subst (λ k. get_or names k d ≢ get_or names b d) (sym e) (here b d (omega (arith, e)) (omega arith))
      | inr l ↦ before a b d l above below
    ]
