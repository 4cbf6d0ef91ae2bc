-- Where the words of the account table lie, and what each of them is of.
use Rattle.std.specs.Prelude.{◌≡◌, ◌≢◌, ◌⊎◌, ℕ, ◌+◌, ◌*◌, ◌<◌, ◌≤◌, ◌==◌, ◌&&◌, cond, nat_lt, List, length, slice_index, slice_set}
use Rattle.seat_views.specs.Keeping.{put}
use Rattle.cells_model.specs.Words.{block_words}

-- ---- places

-- where the clock lies, each pass's word and pin, and the first word of each cell's block
pub record Layout : Type 0 where
  pub clock : ℕ
  pub pass : ℕ → ℕ
  pub pin : ℕ → ℕ
  pub cell : ℕ → ℕ

abbrev pub block_place : Layout → ℕ → ℕ → ℕ
block_place at k i = at.cell k + i

-- the place is none of a block
abbrev pub IsOutside : ℕ → ℕ → Type 0
IsOutside place first = (place < first) ⊎ (first + block_words ≤ place)

-- all places lie among so many words, and no two words have one place
pub record KeepsApart (at : Layout) (passes cells width : ℕ) : Type 0 where
  pub clock_in : at.clock < width
  pub pass_in : (p : ℕ) → p < passes → at.pass p < width
  pub pin_in : (p : ℕ) → p < passes → at.pin p < width
  pub cell_in : (k : ℕ) → k < cells → at.cell k + block_words ≤ width
  pub passes_apart : (p q : ℕ) → p < passes → q < passes → at.pass p ≡ at.pass q → p ≡ q
  pub pins_apart : (p q : ℕ) → p < passes → q < passes → at.pin p ≡ at.pin q → p ≡ q
  pub cells_apart : (k l : ℕ) → k < cells → l < cells → k ≢ l
      → (at.cell k + block_words ≤ at.cell l) ⊎ (at.cell l + block_words ≤ at.cell k)
  pub pass_clock : (p : ℕ) → p < passes → at.pass p ≢ at.clock
  pub pin_clock : (p : ℕ) → p < passes → at.pin p ≢ at.clock
  pub pass_pin : (p q : ℕ) → p < passes → q < passes → at.pass p ≢ at.pin q
  pub clock_cell : (k : ℕ) → k < cells → IsOutside at.clock (at.cell k)
  pub pass_cell : (p k : ℕ) → p < passes → k < cells → IsOutside (at.pass p) (at.cell k)
  pub pin_cell : (p k : ℕ) → p < passes → k < cells → IsOutside (at.pin p) (at.cell k)

-- Word 0 is never written, since each join and split loads it. The clock, and each pass's word
-- and pin, have a line of eight words each; cells follow without gaps.
abbrev pub lines : ℕ → Layout
lines passes = record {
  clock = 8;
  pass = λ p. 16 + 16 * p;
  pin = λ p. 24 + 16 * p;
  cell = λ k. 16 + 16 * passes + block_words * k;
}

abbrev pub LinesKeepApart : Type 0
LinesKeepApart =
    (passes cells width : ℕ) → 16 + 16 * passes + block_words * cells ≤ width
    → KeepsApart (lines passes) passes cells width

-- ---- words

-- all words by what they are of; beyond the passes and cells there is 0
pub record Words : Type 0 where
  pub clock : ℕ
  pub pass : ℕ → ℕ
  pub pin : ℕ → ℕ
  pub block : ℕ → ℕ → ℕ

abbrev pub words_at : Layout → ℕ → ℕ → List ℕ → Words
words_at at passes cells words = record {
  clock = slice_index words at.clock;
  pass = λ p. cond (nat_lt p passes) (slice_index words (at.pass p)) 0;
  pin = λ p. cond (nat_lt p passes) (slice_index words (at.pin p)) 0;
  block = λ k i. cond (nat_lt k cells && nat_lt i block_words)
      (slice_index words (at.cell k + i)) 0;
}

-- one word of one block is that, and all others are as they were
abbrev pub put_word : (ℕ → ℕ → ℕ) → ℕ → ℕ → ℕ → ℕ → ℕ → ℕ
put_word block k i n l j = cond ((l == k) && (j == i)) n (block l j)

-- ---- a store changes one word of one sort

abbrev pub ClockIsStored : Type 0
ClockIsStored =
    (at : Layout) (passes cells : ℕ) (words : List ℕ)
    → KeepsApart at passes cells (length words)
    → (n : ℕ) → words_at at passes cells (slice_set words at.clock n)
    ≡ record (words_at at passes cells words) { clock = n }

abbrev pub PassIsStored : Type 0
PassIsStored =
    (at : Layout) (passes cells : ℕ) (words : List ℕ)
    → KeepsApart at passes cells (length words)
    → (p n : ℕ) → p < passes → words_at at passes cells (slice_set words (at.pass p) n)
    ≡ record (words_at at passes cells words) {
      pass = put
          (words_at at passes cells words).pass p n;
    }

abbrev pub PinIsStored : Type 0
PinIsStored =
    (at : Layout) (passes cells : ℕ) (words : List ℕ)
    → KeepsApart at passes cells (length words)
    → (p n : ℕ) → p < passes → words_at at passes cells (slice_set words (at.pin p) n)
    ≡ record (words_at at passes cells words) {
      pin = put
          (words_at at passes cells words).pin p n;
    }

abbrev pub BlockWordIsStored : Type 0
BlockWordIsStored =
    (at : Layout) (passes cells : ℕ) (words : List ℕ)
    → KeepsApart at passes cells (length words)
    → (k i n : ℕ) → k < cells → i < block_words
    → words_at at passes cells (slice_set words (block_place at k i) n)
    ≡ record (words_at at passes cells words) {
      block = put_word (words_at at passes cells words).block k i n;
    }
