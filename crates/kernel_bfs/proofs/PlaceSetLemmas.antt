-- What sets of places have, and a round from a set.
use Rattle.std.proofs.Common.{◌≡◌, ℕ, suc, ◌+◌, ◌*◌, ◌/◌, ◌%◌, ◌^◌, ◌<◌, ◌≤◌, ⊎_elim, List, [], ◌∷◌, false, cond, ◌==◌, length, refl, sym, ap, ◌∙◌, arith}
use Rattle.std.specs.Prelude.{slice_index, ◌||◌}
use Rattle.std.specs.Int.{bit_at}
use Rattle.std.specs.Int.Bits.{bit_or}
use Rattle.std.proofs.lemmas.Bool.{cases_lt, cases_eq, eq-eqb, ne_eqb}
use Rattle.std.proofs.lemmas.Nat.Bits.{bit_at-zero, bit_at_or, bit_at-pow_same, bit_at-pow_other, bit_at-lt}
use Rattle.std.proofs.lemmas.Nat.{pow_below}
use Rattle.graph_image.specs.declared.edge.Arc.{Arc}
use Rattle.graph_image.specs.Images.{Places, AreWithin, arcs_at}
use Rattle.kernel_bfs.specs.declared.levels.TheConstants.{UNREACHED}
use Rattle.kernel_bfs.specs.Levels.{has_at, IsRound}
use Rattle.kernel_bfs.specs.PlaceSets.{HasPlaces, IsWordOf, IsOfLevel, meets, distance_after, IsSwept}

-- the word of a place is there
pub word_there : (n place : ℕ) (words : List ℕ) → HasPlaces n words → place < n → place / 64 < length words
word_there n place words room below = omega arith

-- a number with one bit more
more_bits : (w k i : ℕ) → (bit_at (bit_or w (2 ^ k)) i == 1) ≡ (i == k || (bit_at w i == 1))
more_bits w k i = ⊎_elim
    (λ same.
    let one : bit_at (2 ^ k) i ≡ 1 = ap (bit_at (2 ^ k)) same ∙ bit_at-pow_same k in
    let at : bit_at (bit_or w (2 ^ k)) i ≡ 1 = omega (arith, bit_at_or w (2 ^ k) i, one, bit_at-lt w i) in
    eq-eqb _ 1 at ∙ ap (λ b. b || (bit_at w i == 1)) (sym (eq-eqb i k same)))
    (λ other.
    let none : bit_at (2 ^ k) i ≡ 0 = bit_at-pow_other k i other in
    let at : bit_at (bit_or w (2 ^ k)) i ≡ bit_at w i = omega (arith, bit_at_or w (2 ^ k) i, none) in
    ap (λ x. x == 1) at ∙ ap (λ b. b || (bit_at w i == 1)) (sym (ne_eqb i k other)))
    (cases_eq i k)

-- a bit of a word is a word
pub mask_is : (k : ℕ) → k < 64 → 1 * 2 ^ k % 18446744073709551616 ≡ 2 ^ k
mask_is k below = let small : 2 ^ k < 2 ^ 64 = pow_below k 64 below in omega arith

-- the first n bits are those of their places, and the others aren't set
pub record IsWordTo (level : ℕ) (distances : List ℕ) (first n word : ℕ) : Type 0 where
  pub done : (k : ℕ) → k < n → (bit_at word k == 1) ≡ (slice_index distances (first + k) == level)
  pub left : (k : ℕ) → n ≤ k → (bit_at word k == 1) ≡ false

pub word_none : (level : ℕ) (distances : List ℕ) (first : ℕ) → IsWordTo level distances first 0 0
word_none level distances first = record {
  done = λ k below. absurd (omega arith);
  left = λ k over. ap (λ b. b == 1) (bit_at-zero k);
}

-- one place more, at the level
pub word_more : (level : ℕ) (distances : List ℕ) (first n word : ℕ) → IsWordTo level distances first n word → slice_index distances (first + n) ≡ level → IsWordTo level distances first (n + 1) (bit_or word (2 ^ n))
word_more level distances first n word is at = record {
  done = λ k below. more_bits word n k ∙ ⊎_elim
      (λ same. ap (λ b. b || (bit_at word k == 1)) (eq-eqb k n same) ∙ sym (eq-eqb _ level (ap (λ i. slice_index distances (first + i)) same ∙ at)))
      (λ other. ap (λ b. b || (bit_at word k == 1)) (ne_eqb k n other) ∙ is.done k (⊎_elim (λ low. low) (λ high. absurd (other (omega arith))) (cases_lt k n)))
      (cases_eq k n);
  left = λ k over. more_bits word n k ∙ ap (λ b. b || (bit_at word k == 1)) (ne_eqb k n (λ same. absurd (omega arith))) ∙ is.left k (omega arith);
}

-- or not
pub word_same : (level : ℕ) (distances : List ℕ) (first n word : ℕ) → IsWordTo level distances first n word → (slice_index distances (first + n) ≡ level → ⊥) → IsWordTo level distances first (n + 1) word
word_same level distances first n word is other_n = record {
  done = λ k below. ⊎_elim
      (λ same. ap (λ i. bit_at word i == 1) same ∙ is.left n (omega arith) ∙ sym (ne_eqb _ level other_n) ∙ ap (λ i. slice_index distances (first + i) == level) (sym same))
      (λ other. is.done k (⊎_elim (λ low. low) (λ high. absurd (other (omega arith))) (cases_lt k n)))
      (cases_eq k n);
  left = λ k over. is.left k (omega arith);
}

-- all of them
pub word_all : (level : ℕ) (distances : List ℕ) (first n word : ℕ) → IsWordTo level distances first n word → ((k : ℕ) → k < 64 → first + k < length distances → k < n) → IsWordOf level distances first word
word_all level distances first n word is whole k below inside = is.done k (whole k below inside)

-- ---- a round from a set

-- a set whose words are those of the level has just the places at it
pub of_level : (level : ℕ) (distances words : List ℕ) → HasPlaces (length distances) words → ((i : ℕ) → i < length words → IsWordOf level distances (i * 64) (slice_index words i)) → IsOfLevel level distances words
of_level level distances words room each p below =
    let place : p / 64 * 64 + p % 64 ≡ p = omega arith in
    each (p / 64) (word_there (length distances) p words room below) (p % 64) (omega arith) (omega arith)
    ∙ ap (λ q. slice_index distances q == level) place

-- an arc from the set is one from the level
same_meets : (n level : ℕ) (distances words : List ℕ) → IsOfLevel level distances words → length distances ≡ n → (arcs : List Arc) → AreWithin n arcs → meets words arcs ≡ has_at distances level arcs
same_meets n level distances words of_it count [] within = refl
same_meets n level distances words of_it count (a ∷ arcs) within =
    let here = of_it a.other (let below = within 0 a refl in omega arith) in
    let rest = same_meets n level distances words of_it count arcs (λ i b at. within (suc i) b at) in
    (λ j. here j || rest j)

-- so what is swept from the set is a round from the level
pub swept_round : (image : Places) → ((p : ℕ) → p < length image.vertices → AreWithin (length image.vertices) (arcs_at image.into p)) → (words : List ℕ) (level : ℕ) (old new : List ℕ)
    → length old ≡ length image.vertices → IsOfLevel level old words → IsSwept image words level old new → IsRound image level old new
swept_round image within words level old new count of_it swept = record {
  count = swept.count;
  each = λ p below. swept.each p below
      ∙ ap (λ b. cond (slice_index old p == UNREACHED) (cond b (level + 1) UNREACHED) (slice_index old p))
      (same_meets (length image.vertices) level old words of_it count (arcs_at image.into p) (within p (omega arith)));
}

-- ---- place by place

-- the first n places are swept, and the others are as they were
pub record IsSweptTo (image : Places) (words : List ℕ) (level : ℕ) (old new : List ℕ) (n : ℕ) : Type 0 where
  pub count : length new ≡ length old
  pub done : (p : ℕ) → p < n → p < length old → slice_index new p ≡ distance_after image words level p (slice_index old p)
  pub left : (p : ℕ) → n ≤ p → slice_index new p ≡ slice_index old p
