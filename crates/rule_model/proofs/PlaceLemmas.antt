-- A store of a word at its place changes that word alone, and a layout in lines keeps places apart.
use Rattle.std.proofs.Common.{◌≡◌, ◌≢◌, inl, inr, ℕ, ◌+◌, ◌<◌, List, length, set, refl, sym, ◌∙◌, ap, cond, arith, get_or-set_same, get_or-set_other}
use Rattle.std.specs.Prelude.{Bool, true, false, ◌==◌, ◌&&◌, nat_lt, slice_index}
use Rattle.std.proofs.lemmas.Bool.Decides.{nat_tests}
use mathlib.Core.Logic.{dite}
use native.Mathlib.Decide.{ℕ_discrete, dec_le}
use lib.Seq.{set-get_or}
use Rattle.seat_views.specs.Keeping.{put}
use Rattle.cells_model.specs.Cells.{StoresBlockWord}
use Rattle.cells_model.specs.Words.{block_words}
use Rattle.rule_model.specs.Places.{Layout, IsOutside, KeepsApart, LinesKeepApart, ClockIsStored, PassIsStored, PinIsStored, BlockWordIsStored, block_place, put_word, words_at}

-- a load changes no word
pub words_loaded : (at : Layout) (passes cells : ℕ) (words : List ℕ) (i : ℕ)
    → words_at at passes cells (set words i (slice_index words i)) ≡ words_at at passes cells words
words_loaded at passes cells words i = ap (words_at at passes cells) (set-get_or words i 0)

-- where a place is that of no other word of a sort
module _ (at : Layout) (passes cells : ℕ) (words : List ℕ) (place n : ℕ) where
  -- the words of passes, or the pins, stay
  numbers_stay : (where_is : ℕ → ℕ) → ((p : ℕ) → p < passes → where_is p ≢ place)
      → ◌≡◌ {A = ℕ → ℕ} (λ p. cond (nat_lt p passes) (slice_index (set words place n) (where_is p)) 0)
      (λ p. cond (nat_lt p passes) (slice_index words (where_is p)) 0)
  numbers_stay where_is other = λ t p. one p (nat_lt p passes) refl t
    where
      one : (p : ℕ) (b : Bool) → nat_lt p passes ≡ b
          → cond b (slice_index (set words place n) (where_is p)) 0 ≡ cond b (slice_index words (where_is p)) 0
      one p true e = get_or-set_other words place (where_is p) n 0 (other p (grind (arith, nat_tests)))
      one p false e = refl

  -- and so do all blocks
  blocks_stay : ((k : ℕ) → k < cells → IsOutside place (at.cell k))
      → ◌≡◌ {A = ℕ → ℕ → ℕ} (words_at at passes cells (set words place n)).block
      (words_at at passes cells words).block
  blocks_stay outside = λ t k i. one k i (nat_lt k cells) (nat_lt i block_words) refl refl t
    where
      one : (k i : ℕ) (b c : Bool) → nat_lt k cells ≡ b → nat_lt i block_words ≡ c
          → cond (b && c) (slice_index (set words place n) (at.cell k + i)) 0 ≡ cond (b && c)
          (slice_index words (at.cell k + i)) 0
      one k i true true e f =
          let small : i < block_words = grind (arith, nat_tests) in
          let inside : k < cells = grind (arith, nat_tests) in
          get_or-set_other words place (at.cell k + i) n 0 (λ same. elim (outside k inside) as (λ _. ⊥) [
            | inl low ↦ omega (arith, low, same)
            | inr high ↦ omega (arith, high, same, small)
          ])
      one k i true false e f = refl
      one k i false c e f = refl

-- the word of one pass, or one pin, becomes that, and no other does
number_put : (passes : ℕ) (words : List ℕ) (where_is : ℕ → ℕ) (p n : ℕ) → p < passes → where_is p < length words
    → ((q : ℕ) → q < passes → where_is q ≡ where_is p → q ≡ p)
    → ◌≡◌ {A = ℕ → ℕ} (λ q. cond (nat_lt q passes) (slice_index (set words (where_is p) n) (where_is q)) 0)
    (put (λ q. cond (nat_lt q passes) (slice_index words (where_is q)) 0) p n)
number_put passes words where_is p n inside within apart = λ t q. each q t
  where
    each : (q : ℕ) → cond (nat_lt q passes) (slice_index (set words (where_is p) n) (where_is q)) 0
        ≡ cond (q == p) n (cond (nat_lt q passes) (slice_index words (where_is q)) 0)
    each q = dite (ℕ_discrete q p)
        (λ same.
        let b : nat_lt q passes ≡ true = (let lt : q < passes = omega (arith, inside, same) in
        grind (arith, nat_tests)) in
        let u : (q == p) ≡ true = grind (arith, nat_tests) in
        ap (λ x. cond x (slice_index (set words (where_is p) n) (where_is q)) 0) b
        ∙ ap (λ k. slice_index (set words (where_is p) n) (where_is k)) same
        ∙ get_or-set_same words (where_is p) n 0 within
        ∙ ap (λ x. cond x n (cond (nat_lt q passes) (slice_index words (where_is q)) 0)) (sym u))
        (λ other.
        let u : (q == p) ≡ false = grind (arith, nat_tests) in
        by_test q (nat_lt q passes) refl other
        ∙ ap (λ x. cond x n (cond (nat_lt q passes) (slice_index words (where_is q)) 0)) (sym u))
      where
        by_test : (q : ℕ) (b : Bool) → nat_lt q passes ≡ b → (q ≡ p → ⊥)
            → cond b (slice_index (set words (where_is p) n) (where_is q)) 0 ≡ cond b
            (slice_index words (where_is q)) 0
        by_test q true e other = get_or-set_other words (where_is p) (where_is q) n 0
            (λ same. other (apart q (grind (arith, nat_tests)) same))
        by_test q false e other = refl

module _ (at : Layout) (passes cells : ℕ) (words : List ℕ) (a : KeepsApart at passes cells (length words)) where
  pub clock_stored : (n : ℕ) → words_at at passes cells (set words at.clock n) ≡ record
      (words_at at passes cells words) { clock = n }
  clock_stored n = λ t. record {
    clock = get_or-set_same words at.clock n 0 a.clock_in t;
    pass = numbers_stay at passes cells words at.clock n at.pass (λ p inside. a.pass_clock p inside) t;
    pin = numbers_stay at passes cells words at.clock n at.pin (λ p inside. a.pin_clock p inside) t;
    block = blocks_stay at passes cells words at.clock n a.clock_cell t;
  }

  pub pass_stored : (p n : ℕ) → p < passes → words_at at passes cells (set words (at.pass p) n)
      ≡ record (words_at at passes cells words) { pass = put (words_at at passes cells words).pass p n }
  pass_stored p n inside = λ t. record {
    clock = get_or-set_other words (at.pass p) at.clock n 0 (λ e. a.pass_clock p inside (sym e)) t;
    pass = number_put passes words at.pass p n inside (a.pass_in p inside)
        (λ q in_q same. a.passes_apart q p in_q inside same) t;
    pin = numbers_stay at passes cells words (at.pass p) n at.pin
        (λ q in_q same. a.pass_pin p q inside in_q (sym same)) t;
    block = blocks_stay at passes cells words (at.pass p) n (λ k in_k. a.pass_cell p k inside in_k) t;
  }

  pub pin_stored : (p n : ℕ) → p < passes → words_at at passes cells (set words (at.pin p) n)
      ≡ record (words_at at passes cells words) { pin = put (words_at at passes cells words).pin p n }
  pin_stored p n inside = λ t. record {
    clock = get_or-set_other words (at.pin p) at.clock n 0 (λ e. a.pin_clock p inside (sym e)) t;
    pass = numbers_stay at passes cells words (at.pin p) n at.pass
        (λ q in_q same. a.pass_pin q p in_q inside same) t;
    pin = number_put passes words at.pin p n inside (a.pin_in p inside)
        (λ q in_q same. a.pins_apart q p in_q inside same) t;
    block = blocks_stay at passes cells words (at.pin p) n (λ k in_k. a.pin_cell p k inside in_k) t;
  }

  module _ (k i n : ℕ) (inside : k < cells) (small : i < block_words) where
    -- a place outside the block is none of its words
    other_place : (place : ℕ) → IsOutside place (at.cell k) → place ≢ at.cell k + i
    other_place place outside same = elim outside as
        (λ _. ⊥) [ inl low ↦ omega (arith, low, same) | inr high ↦ omega (arith, high, same, small) ]

    block_place_in : at.cell k + i < length words
    block_place_in = let w = a.cell_in k inside in omega (arith, w, small)

    pub block_word_stored : words_at at passes cells (set words (block_place at k i) n)
        ≡ record (words_at at passes cells words) {
          block = put_word
              (words_at at passes cells words).block k i n;
        }
    block_word_stored = λ t. record {
      clock = get_or-set_other words (at.cell k + i) at.clock n 0
          (other_place at.clock (a.clock_cell k inside)) t;
      pass = numbers_stay at passes cells words (at.cell k + i) n at.pass
          (λ p in_p. other_place (at.pass p) (a.pass_cell p k in_p inside)) t;
      pin = numbers_stay at passes cells words (at.cell k + i) n at.pin
          (λ p in_p. other_place (at.pin p) (a.pin_cell p k in_p inside)) t;
      block = λ l j. each l j t;
    }
      where
        each : (l j : ℕ) → cond (nat_lt l cells && nat_lt j block_words)
            (slice_index (set words (at.cell k + i) n) (at.cell l + j)) 0
            ≡ cond ((l == k) && (j == i)) n (cond (nat_lt l cells && nat_lt j block_words)
            (slice_index words (at.cell l + j)) 0)
        each l j = dite (ℕ_discrete l k)
            (λ same_l. dite (ℕ_discrete j i)
            (λ same_j.
            let b : (nat_lt l cells && nat_lt j block_words) ≡ true =
            (let x : l < cells = omega (arith, inside, same_l) in
            let y : j < block_words = omega (arith, small, same_j) in grind (arith, nat_tests)) in
            let u : ((l == k) && (j == i)) ≡ true = grind (arith, nat_tests) in
            ap (λ x. cond x (slice_index (set words (at.cell k + i) n) (at.cell l + j)) 0) b
            ∙ (λ t. slice_index (set words (at.cell k + i) n) (at.cell (same_l t) + same_j t))
            ∙ get_or-set_same words (at.cell k + i) n 0 block_place_in
            ∙ ap (λ x. cond x n (cond (nat_lt l cells && nat_lt j block_words)
            (slice_index words (at.cell l + j)) 0)) (sym u))
            (λ other_j.
            let u : ((l == k) && (j == i)) ≡ false = grind (arith, nat_tests) in
            let e : at.cell l + j ≢ at.cell k + i =
            (λ same. other_j (let c : at.cell l ≡ at.cell k = ap at.cell same_l in
            omega (arith, same, c))) in
            ap (λ m. cond (nat_lt l cells && nat_lt j block_words) m 0)
            (get_or-set_other words (at.cell k + i) (at.cell l + j) n 0 e)
            ∙ ap (λ x. cond x n (cond (nat_lt l cells && nat_lt j block_words)
            (slice_index words (at.cell l + j)) 0)) (sym u)))
            (λ other_l.
            let u : ((l == k) && (j == i)) ≡ false = grind (arith, nat_tests) in
            by_test l j (nat_lt l cells) (nat_lt j block_words) refl refl other_l
            ∙ ap (λ x. cond x n (cond (nat_lt l cells && nat_lt j block_words)
            (slice_index words (at.cell l + j)) 0)) (sym u))
          where
            by_test : (l j : ℕ) (b c : Bool) → nat_lt l cells ≡ b → nat_lt j block_words ≡ c → (l ≡ k → ⊥)
                → cond (b && c) (slice_index (set words (at.cell k + i) n) (at.cell l + j)) 0 ≡ cond (b && c)
                (slice_index words (at.cell l + j)) 0
            by_test l j true true e f other =
                let in_l : l < cells = grind (arith, nat_tests) in
                let in_j : j < block_words = grind (arith, nat_tests) in
                get_or-set_other words (at.cell k + i) (at.cell l + j) n 0
                (λ same. elim (a.cells_apart l k in_l inside other) as (λ _. ⊥) [
                  | inl low ↦ omega (arith, low, same, in_j)
                  | inr high ↦ omega (arith, high, same, small)
                ])
            by_test l j true false e f other = refl
            by_test l j false c e f other = refl

pub clock_is_stored : ClockIsStored
clock_is_stored = clock_stored

pub pass_is_stored : PassIsStored
pass_is_stored = pass_stored

pub pin_is_stored : PinIsStored
pin_is_stored = pin_stored

pub block_word_is_stored : BlockWordIsStored
block_word_is_stored at passes cells words a k i n inside small =
    block_word_stored at passes cells words a k i n inside small

-- in words of blocks that is one word that is stored
pub word_put : (block : ℕ → ℕ → ℕ) (k i n : ℕ) → StoresBlockWord block (put_word block k i n) k i n
word_put block k i n = record {
  here = let u : ((k == k) && (i == i)) ≡ true = grind (arith, nat_tests) in ap (λ x. cond x n (block k i)) u;
  others = λ l j small other. by_tests l j (l == k) (j == i) refl refl other;
}
  where
    by_tests : (l j : ℕ) (b c : Bool) → (l == k) ≡ b → (j == i) ≡ c → ((l ≡ k) × (j ≡ i) → ⊥)
        → cond (b && c) n (block l j) ≡ block l j
    by_tests l j true true e f other =
        let same_l : l ≡ k = grind (arith, nat_tests) in
        let same_j : j ≡ i = grind (arith, nat_tests) in
        absurd (other (same_l, same_j))
    by_tests l j true false e f other = refl
    by_tests l j false c e f other = refl

-- ---- a layout in lines

pub lines_keep_apart : LinesKeepApart
lines_keep_apart passes cells width wide = record {
  clock_in = omega (arith, wide);
  pass_in = λ p inside. omega (arith, wide, inside);
  pin_in = λ p inside. omega (arith, wide, inside);
  cell_in = λ k inside. omega (arith, wide, inside);
  passes_apart = λ p q in_p in_q same. omega (arith, same);
  pins_apart = λ p q in_p in_q same. omega (arith, same);
  cells_apart = λ k l in_k in_l other. dite (dec_le k l)
      (λ le. inl (omega (arith, le, other)))
      (λ gt. inr (omega (arith, gt)));
  pass_clock = λ p inside same. omega (arith, same);
  pin_clock = λ p inside same. omega (arith, same);
  pass_pin = λ p q in_p in_q same. omega (arith, same);
  clock_cell = λ k inside. inl (omega arith);
  pass_cell = λ p k in_p in_k. inl (omega (arith, in_p));
  pin_cell = λ p k in_p in_k. inl (omega (arith, in_p));
}
