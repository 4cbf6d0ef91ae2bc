-- The words of cells that begin packed, and those before them.
use Rattle.std.proofs.Common.{◌≡◌, ◌≢◌, ℕ, zero, suc, ◌+◌, ◌-◌, ◌*◌, ◌<◌, ◌≤◌, List, [], ◌∷◌, ◌++◌, length, map, refl, sym, ◌∙◌, ap, cond, arith, length-append, append_assoc}
use Rattle.std.specs.Prelude.{Bool, true, false, ◌==◌, Some, slice_get, slice_index, reverse, slice_index_or, slice_set, take}
use Rattle.std.specs.List.{AllByRecursion}
use Rattle.std.proofs.lemmas.Bool.Decides.{nat_tests}
use Rattle.std.proofs.lemmas.List.{get_or-set_other, get_or-set_same, get_or_append_left, get_or-append_right, append-nil, length-map, length-set, map-append, reverse-append}
use Rattle.graph_model.specs.declared.row.Row.{Row}
use Rattle.seat_views.proofs.NumberLemmas.{some_is}
use Rattle.txn_manager.specs.declared.config.Config.{Config}
use Rattle.rule_model.specs.VersionSegment.Resting.{RestingRows, settled_rest, word_row, word_rows}
use Rattle.rule_model.specs.VersionSegment.Rows.{IsSegment, VersionedRows}
use Rattle.rule_model.specs.StoreRelation.Loads.{loaded_word}
use Rattle.rule_model.specs.StoreRelation.Words.{commit_word}
use Rattle.rule_model.specs.CellsModel.Words.{HasSmallWeights, Spells, block_words, flat, spelled}
use Rattle.rule_model.specs.EndSteps.{AreLoadedWords, IsFirstState, zeros}
use Rattle.rule_model.specs.Places.{lines}
use Rattle.rule_model.specs.Sight.{cells_of}
use Rattle.rule_model.proofs.PlaceLemmas.{lines_keep_apart}
use Rattle.loaded_cells.specs.Numbered.{block_of, blocks_of, cell_of, first_state, loaded_head, loaded_words, resting_rows, row_count, row_counts}
use Rattle.loaded_cells.specs.Ranges.{idle_segment, leaf_segments, loaded_segments}
use Rattle.loaded_cells.specs.declared.fill.LoadedRange.{LoadedRange}

-- ---- lengths

pub zeros_length : (n : ℕ) → length (zeros n) ≡ n
zeros_length zero = refl
zeros_length (suc n) = ap suc (zeros_length n)

zeros_zero : (n i : ℕ) → slice_index (zeros n) i ≡ 0
zeros_zero zero i = refl
zeros_zero (suc n) zero = refl
zeros_zero (suc n) (suc i) = zeros_zero n i

-- fewer zeros of some
pub fewer_zeros : (n k : ℕ) → k ≤ n → take k (zeros n) ≡ zeros k
fewer_zeros n zero le = refl
fewer_zeros zero (suc k) le = absurd (omega (arith, le))
fewer_zeros (suc n) (suc k) le = ap (λ l. 0 ∷ l) (fewer_zeros n k (omega (arith, le)))

flat_length : (rows : List Row) → length (flat rows) ≡ 3 * length rows
flat_length [] = refl
flat_length (row ∷ rows) = let rest = flat_length rows in omega (arith, rest)

block_length : (s : VersionedRows) → length s.rows ≤ 32 → length (block_of s) ≡ block_words
block_length s few =
    let rows = word_rows s in
    let count : length rows ≡ length s.rows = length-map s.rows word_row in
    let words = flat_length rows in
    let none = zeros_length (96 - 3 * length rows) in
    let all = length-append (spelled s.low s.high rows) (zeros (96 - 3 * length rows)) in
    omega (arith, count, words, none, all, few)

-- ---- one block

get_front : (xs ys : List ℕ) (i n : ℕ) → slice_get xs i ≡ Some n → slice_index (xs ++ ys) i ≡ n
get_front [] ys i n e = cc
get_front (x ∷ xs) ys zero n e = some_is x n e
get_front (x ∷ xs) ys (suc i) n e = get_front xs ys i n e

first_spells : (s : VersionedRows) → IsSegment s → HasSmallWeights s → Spells (block_of s) s
first_spells s sound small = record {
  wide = block_length s sound.small;
  words = λ i n e.
      let at : i + 1 ≡ suc i = omega arith in
      ap (slice_index (block_of s)) at
      ∙ get_front (spelled s.low s.high (word_rows s)) (zeros (96 - 3 * length (word_rows s))) i n e;
  sound = sound;
  small = small;
}

is_first : (s : VersionedRows) → IsSegment s → HasSmallWeights s → IsFirstState (first_state s)
is_first s sound small = record { version = refl; packed = refl; spells = first_spells s sound small }

-- ---- all blocks

-- each may be spelled
abbrev pub MaySpell : VersionedRows → Type 0
MaySpell s = IsSegment s × HasSmallWeights s

idle_sound : IsSegment idle_segment
idle_sound = record { fences = refl; rising = tt; within = tt; something = tt; small = omega arith }

pub idle_may : MaySpell idle_segment
idle_may = (idle_sound, tt)

pub all_first : (ss : List VersionedRows) (k : ℕ) → AllByRecursion MaySpell ss → IsFirstState (cell_of ss k)
all_first [] k may = is_first idle_segment idle_may.0 idle_may.1
all_first (s ∷ ss) zero may = is_first s may.0.0 may.0.1
all_first (s ∷ ss) (suc k) may = all_first ss k may.1

pub blocks_length : (ss : List VersionedRows) → AllByRecursion MaySpell ss → length (blocks_of ss) ≡ block_words * length ss
blocks_length [] may = refl
blocks_length (s ∷ ss) may =
    let both = length-append (block_of s) (blocks_of ss) in
    let one = block_length s may.0.0.small in
    let rest = blocks_length ss may.1 in
    omega (arith, both, one, rest)

block_at : (ss : List VersionedRows) (k i : ℕ) → AllByRecursion MaySpell ss → k < length ss → i < block_words
    → slice_index (blocks_of ss) (block_words * k + i) ≡ slice_index (cell_of ss k).block i
block_at [] k i may inside within = absurd (omega (arith, inside))
block_at (s ∷ ss) zero i may inside within =
    let one = block_length s may.0.0.small in
    let front : block_words * 0 + i ≡ i = omega arith in
    ap (slice_index (block_of s ++ blocks_of ss)) front
    ∙ get_or_append_left (block_of s) (blocks_of ss) 0 i (omega (arith, one, within))
block_at (s ∷ ss) (suc k) i may inside within =
    get_or-append_right (block_of s) (blocks_of ss) block_words (block_words * suc k + i) 0
    (block_length s may.0.0.small) (omega arith)
    ∙ ap (slice_index (blocks_of ss)) (omega arith)
    ∙ block_at ss k i may.1 (omega (arith, inside)) within

-- ---- the words before

pub head_length : (passes : ℕ) → length (loaded_head passes) ≡ 16 + 16 * passes
head_length passes =
    length-set (slice_set (zeros (16 + 16 * passes)) 8 1) 16 (commit_word 0)
    ∙ length-set (zeros (16 + 16 * passes)) 8 1 ∙ zeros_length (16 + 16 * passes)

head_clock : (passes : ℕ) → slice_index (loaded_head passes) 8 ≡ 1
head_clock passes =
    let none : List ℕ = zeros (16 + 16 * passes) in
    let wide = zeros_length (16 + 16 * passes) in
    get_or-set_other (slice_set none 8 1) 16 8 (commit_word 0) 0 (λ e. absurd (omega (arith, e)))
    ∙ get_or-set_same none 8 1 0 (omega (arith, wide))

head_pass : (passes p : ℕ) → p < passes → slice_index (loaded_head passes) (16 + 16 * p) ≡ loaded_word p
head_pass passes p inside = by_test (p == 0) refl
  where
    none : List ℕ
    none = zeros (16 + 16 * passes)

    by_test : (t : Bool) → (p == 0) ≡ t → slice_index (loaded_head passes) (16 + 16 * p) ≡ cond t (commit_word 0) 0
    by_test true is =
        let at : 16 + 16 * p ≡ 16 = grind (arith, nat_tests) in
        let wide = length-set none 8 1 in
        let count = zeros_length (16 + 16 * passes) in
        ap (slice_index (loaded_head passes)) at
        ∙ get_or-set_same (slice_set none 8 1) 16 (commit_word 0) 0 (omega (arith, wide, count, inside))
    by_test false is =
        let other : p ≢ 0 = λ e. let yes : (p == 0) ≡ true = ap (λ n. n == 0) e in cc in
        get_or-set_other (slice_set none 8 1) 16 (16 + 16 * p) (commit_word 0) 0
        (λ e. other (omega (arith, e)))
        ∙ get_or-set_other none 8 (16 + 16 * p) 1 0 (λ e. absurd (omega (arith, e)))
        ∙ zeros_zero (16 + 16 * passes) (16 + 16 * p)

-- the words are those of a store that begins so
pub are_loaded_words : (z : Config) (ss : List VersionedRows) → AllByRecursion MaySpell ss
    → length ss ≡ cells_of z → AreLoadedWords z (lines z.passes) (cell_of ss) (loaded_words z ss)
are_loaded_words z ss may count = record {
  apart = lines_keep_apart z.passes (cells_of z) (length (loaded_words z ss)) (omega (arith, all, front, back, count));
  clock = in_head 8 (omega arith) ∙ head_clock z.passes;
  passes = λ p inside. in_head (16 + 16 * p) (omega (arith, inside)) ∙ head_pass z.passes p inside;
  blocks = λ k i inside within.
      get_or-append_right (loaded_head z.passes) (blocks_of ss) (16 + 16 * z.passes)
      (16 + 16 * z.passes + block_words * k + i) 0 front (omega arith)
      ∙ ap (slice_index (blocks_of ss)) (omega arith)
      ∙ block_at ss k i may (omega (arith, inside, count)) within;
}
  where
    all : length (loaded_words z ss) ≡ length (loaded_head z.passes) + length (blocks_of ss)
    all = length-append (loaded_head z.passes) (blocks_of ss)

    front : length (loaded_head z.passes) ≡ 16 + 16 * z.passes
    front = head_length z.passes

    back : length (blocks_of ss) ≡ block_words * length ss
    back = blocks_length ss may

    in_head : (i : ℕ) → i < 16 + 16 * z.passes
        → slice_index (loaded_words z ss) i ≡ slice_index (loaded_head z.passes) i
    in_head i inside = get_or_append_left (loaded_head z.passes) (blocks_of ss) 0 i (omega (arith, inside, front))

-- ---- words one behind the other

-- one more zero
pub zeros_more : (n m : ℕ) → m ≡ n + 1 → zeros n ++ 0 ∷ [] ≡ zeros m
zeros_more n m is = let last : suc n ≡ m = omega arith in more n ∙ ap zeros last
  where
    more : (n : ℕ) → zeros n ++ 0 ∷ [] ≡ zeros (suc n)
    more zero = refl
    more (suc n) = ap (λ l. 0 ∷ l) (more n)

pub flat_append : (xs ys : List Row) → flat (xs ++ ys) ≡ flat xs ++ flat ys
flat_append [] ys = refl
flat_append (row ∷ xs) ys = ap (λ l. row.key.src ∷ row.key.second ∷ row.weight ∷ l) (flat_append xs ys)

pub blocks_append : (xs ys : List VersionedRows) → blocks_of (xs ++ ys) ≡ blocks_of xs ++ blocks_of ys
blocks_append [] ys = refl
blocks_append (s ∷ xs) ys =
    ap (λ l. block_of s ++ l) (blocks_append xs ys) ∙ sym (append_assoc (block_of s) (blocks_of xs) (blocks_of ys))

pub loaded_append : (xs ys : List LoadedRange) → loaded_segments (xs ++ ys) ≡ loaded_segments xs ++ loaded_segments ys
loaded_append [] ys = refl
loaded_append (r ∷ xs) ys =
    let ss = leaf_segments r in
    ap (λ l. ss ++ l) (loaded_append xs ys) ∙ sym (append_assoc ss (loaded_segments xs) (loaded_segments ys))

-- one more of a list
pub take_one : {A : Type 0} (xs : List A) (p : ℕ) (d : A) → p < length xs
    → take (p + 1) xs ≡ take p xs ++ slice_index_or xs p d ∷ []
take_one {A = A} xs p d less = let last : p + 1 ≡ suc p = omega arith in ap (λ n. take n xs) last ∙ more xs p less
  where
    more : (xs : List A) (p : ℕ) → p < length xs → take (suc p) xs ≡ take p xs ++ slice_index_or xs p d ∷ []
    more [] p less = absurd (omega (arith, less))
    more (x ∷ xs) zero less = refl
    more (x ∷ xs) (suc p) less = ap (λ l. x ∷ l) (more xs p (omega (arith, less)))

-- the next of what is turned round is taken from its end
pub popped : {A : Type 0} (all front old new : List A) (x : A) → all ≡ front ++ reverse old → old ≡ new ++ x ∷ []
    → all ≡ (front ++ x ∷ []) ++ reverse new
popped all front old new x is last =
    is ∙ ap (λ l. front ++ l) (ap reverse last ∙ reverse-append new (x ∷ []))
    ∙ sym (append_assoc front (x ∷ []) (reverse new))

-- the words of a row more
pub rows_more : (start old new : List ℕ) (rows : List Row) (p : ℕ) (d : Row) → old ≡ start ++ flat (take p rows)
    → p < length rows → new ≡ old ++ flat (slice_index_or rows p d ∷ []) → new ≡ start ++ flat (take (p + 1) rows)
rows_more start old new rows p d was less now =
    let row = slice_index_or rows p d in
    now ∙ ap (λ l. l ++ flat (row ∷ [])) was ∙ append_assoc start (flat (take p rows)) (flat (row ∷ []))
    ∙ ap (λ l. start ++ l) (sym (flat_append (take p rows) (row ∷ [])) ∙ ap flat (sym (take_one rows p d less)))

-- ---- a leaf more of a list

-- its cells stand behind those of the others
pub cells_more : (leaves : List LoadedRange) (p : ℕ) (d : LoadedRange) → p < length leaves
    → loaded_segments (take (p + 1) leaves)
    ≡ loaded_segments (take p leaves) ++ leaf_segments (slice_index_or leaves p d)
cells_more leaves p d less =
    let r = slice_index_or leaves p d in
    ap loaded_segments (take_one leaves p d less) ∙ loaded_append (take p leaves) (r ∷ [])
    ∙ ap (λ l. loaded_segments (take p leaves) ++ l) (append-nil (leaf_segments r))

pub words_more : (z : Config) (leaves : List LoadedRange) (p : ℕ) (d : LoadedRange) (old new : List ℕ)
    → p < length leaves → old ≡ loaded_words z (loaded_segments (take p leaves))
    → new ≡ old ++ blocks_of (leaf_segments (slice_index_or leaves p d))
    → new ≡ loaded_words z (loaded_segments (take (p + 1) leaves))
words_more z leaves p d old new less words lays =
    let head = loaded_head z.passes in
    let front = loaded_segments (take p leaves) in
    let ss = leaf_segments (slice_index_or leaves p d) in
    lays ∙ ap (λ l. l ++ blocks_of ss) words ∙ append_assoc head (blocks_of front) (blocks_of ss)
    ∙ ap (λ l. head ++ l) (sym (blocks_append front ss) ∙ ap blocks_of (sym (cells_more leaves p d less)))

pub counts_more : (leaves : List LoadedRange) (p : ℕ) (d : LoadedRange) (old new : List ℕ) → p < length leaves
    → old ≡ row_counts (loaded_segments (take p leaves))
    → new ≡ old ++ row_counts (leaf_segments (slice_index_or leaves p d))
    → new ≡ row_counts (loaded_segments (take (p + 1) leaves))
counts_more leaves p d old new less are counts =
    let front = loaded_segments (take p leaves) in
    let ss = leaf_segments (slice_index_or leaves p d) in
    counts ∙ ap (λ l. l ++ row_counts ss) are ∙ sym (map-append row_count front ss)
    ∙ ap row_counts (sym (cells_more leaves p d less))

-- ---- a segment more of a leaf

pub block_more : (start old new : List ℕ) (front : List VersionedRows) (s : VersionedRows)
    → old ≡ start ++ blocks_of front → new ≡ old ++ block_of s → new ≡ start ++ blocks_of (front ++ s ∷ [])
block_more start old new front s was lays =
    lays ∙ ap (λ l. l ++ block_of s) was ∙ append_assoc start (blocks_of front) (block_of s)
    ∙ ap (λ l. start ++ l) (sym (blocks_append front (s ∷ [])
    ∙ ap (λ l. blocks_of front ++ l) (append-nil (block_of s))))

pub count_more : (start old new : List ℕ) (front : List VersionedRows) (s : VersionedRows) (count : ℕ)
    → old ≡ start ++ row_counts front → new ≡ old ++ count ∷ [] → count ≡ row_count s
    → new ≡ start ++ row_counts (front ++ s ∷ [])
count_more start old new front s count was lays own =
    lays ∙ (λ i. was i ++ own i ∷ []) ∙ append_assoc start (row_counts front) (row_count s ∷ [])
    ∙ ap (λ l. start ++ l) (sym (map-append row_count front (s ∷ [])))

-- ---- what rests of a cell more

pub rest_more : (counts : List ℕ) (p : ℕ) (d : ℕ) (old new : List RestingRows) (r : RestingRows) → p < length counts
    → resting_rows old ≡ map settled_rest (take p counts) → new ≡ old ++ r ∷ []
    → r.rows ≡ settled_rest (slice_index_or counts p d) → resting_rows new ≡ map settled_rest (take (p + 1) counts)
rest_more counts p d old new r less was lays own =
    let count = slice_index_or counts p d in
    ap resting_rows lays ∙ map-append (λ (x : RestingRows). x.rows) old (r ∷ []) ∙ (λ i. was i ++ own i ∷ [])
    ∙ sym (map-append settled_rest (take p counts) (count ∷ []))
    ∙ ap (map settled_rest) (sym (take_one counts p d less))
