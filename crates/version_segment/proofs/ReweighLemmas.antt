-- Rows that get other weights from the last one on.
use Rattle.std.proofs.Common.{◌≡◌, ℕ, zero, suc, ◌<◌, ◌≤◌, List, [], ◌∷◌, length, refl, sym, ◌∙◌, ap, arith}
use Rattle.std.specs.Prelude.{slice_get, Some}
use Rattle.graph_model.specs.declared.row.Row.{Row}
use Rattle.graph_model.proofs.PlaceLemmas.{some_eq}
use Rattle.gap_segment.specs.Fenced.{with_weight}
use Rattle.row_table.specs.HeadMapDeclared.heads.Heads.{Heads}
use Rattle.row_table.specs.HeadMap.Heads.{settled_heads}
use Rattle.version_segment.specs.RestingParts.{head_word, reweighed_from, words_from}

-- at the end none has
pub end_from : (weigh : ℕ → ℕ → ℕ) (rows : List Row) → reweighed_from weigh (length rows) rows ≡ rows
end_from weigh [] = refl
end_from weigh (x ∷ xs) = ap (λ l. x ∷ l) (end_from (λ q. weigh (suc q)) xs)

-- from the first place on these are the words of heads
pub start_from : (f : ℕ → Heads) (rows : List Row) → reweighed_from (λ p weight. head_word (f p) weight) 0 rows ≡ words_from f rows
start_from f [] = refl
start_from f (r ∷ rs) = ap (λ l. record { key = r.key; weight = head_word (f 0) r.weight } ∷ l) (start_from (λ p. f (suc p)) rs)

-- there are as many rows
pub length_from : (weigh : ℕ → ℕ → ℕ) (n : ℕ) (rows : List Row) → length (reweighed_from weigh n rows) ≡ length rows
length_from weigh n [] = refl
length_from weigh zero (x ∷ xs) = ap suc (length_from (λ q. weigh (suc q)) zero xs)
length_from weigh (suc n) (x ∷ xs) = ap suc (length_from (λ q. weigh (suc q)) n xs)

-- the rows before are as they were
pub get_from : (weigh : ℕ → ℕ → ℕ) (n p : ℕ) (rows : List Row) → p < n → slice_get (reweighed_from weigh n rows) p ≡ slice_get rows p
get_from weigh n p [] lt = refl
get_from weigh zero p (x ∷ xs) lt = absurd (omega (arith, lt))
get_from weigh (suc n) zero (x ∷ xs) lt = refl
get_from weigh (suc n) (suc p) (x ∷ xs) lt = get_from (λ q. weigh (suc q)) n p xs (omega (arith, lt))

-- where the weights between two places stay as they are it is the same from either on
pub quiet_from : (weigh : ℕ → ℕ → ℕ) (m n : ℕ) (rows : List Row) → m ≤ n
    → ((q : ℕ) → m ≤ q → q < n → (w : ℕ) → weigh q w ≡ w)
    → reweighed_from weigh n rows ≡ reweighed_from weigh m rows
quiet_from weigh m n [] le quiet = refl
quiet_from weigh zero zero (x ∷ xs) le quiet = refl
quiet_from weigh zero (suc n) (x ∷ xs) le quiet = λ i. record {
  key = x.key;
  weight = sym (quiet 0 (omega arith) (omega arith) x.weight) i;
} ∷ quiet_from (λ q. weigh (suc q)) zero n xs (omega arith)
    (λ q low high w. quiet (suc q) (omega arith) (omega (arith, high)) w) i
quiet_from weigh (suc m) zero (x ∷ xs) le quiet = absurd (omega (arith, le))
quiet_from weigh (suc m) (suc n) (x ∷ xs) le quiet = ap (λ l. x ∷ l) (quiet_from (λ q. weigh (suc q)) m n xs
    (omega (arith, le)) (λ q low high w. quiet (suc q) (omega (arith, low)) (omega (arith, high)) w))

-- one more row has another weight
pub from_next : (weigh : ℕ → ℕ → ℕ) (rows : List Row) (p : ℕ) (r : Row) → slice_get rows p ≡ Some r
    → with_weight (reweighed_from weigh (suc p) rows) p (weigh p r.weight) ≡ reweighed_from weigh p rows
from_next weigh [] p r e = cc
from_next weigh (x ∷ xs) zero r e =
    let same = some_eq x r e in
    λ i. record { key = x.key; weight = weigh 0 (sym same i).weight } ∷ reweighed_from (λ q. weigh (suc q)) 0 xs
from_next weigh (x ∷ xs) (suc p) r e = ap (λ l. x ∷ l) (from_next (λ q. weigh (suc q)) xs p r e)

module _ (f : ℕ → Heads) (rows : List Row) where
  -- the word of a row with the heads at its place
  abbrev weigh : ℕ → ℕ → ℕ
  weigh q weight = head_word (f q) weight

  -- the next changed row has its word, and those behind it that are settled have theirs
  pub next_words : (end p : ℕ) (r : Row) → p < end → slice_get rows p ≡ Some r
      → ((q : ℕ) → suc p ≤ q → q < end → f q ≡ settled_heads)
      → with_weight (reweighed_from weigh end rows) p (head_word (f p) r.weight) ≡ reweighed_from weigh p rows
  next_words end p r below there settled =
      ap (λ l. with_weight l p (head_word (f p) r.weight)) (quiet_from weigh (suc p) end rows (omega (arith, below))
      (λ q low high w. ap (λ (h : Heads). head_word h w) (settled q low high)))
      ∙ from_next weigh rows p r there

  -- where no changed row is left all have their words
  pub last_words : (end : ℕ) → ((q : ℕ) → 0 ≤ q → q < end → f q ≡ settled_heads)
      → reweighed_from weigh end rows ≡ words_from f rows
  last_words end settled =
      quiet_from weigh 0 end rows (omega arith) (λ q low high w. ap (λ (h : Heads). head_word h w) (settled q low high))
      ∙ start_from f rows
