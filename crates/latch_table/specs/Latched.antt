-- Who holds which cell, and what lies in the slots of all others: the rule of the latch table.
use Rattle.std.specs.Prelude.{◌≡◌, ◌⊎◌, ◌≢◌, ℕ, ◌==◌, ◌+◌, ◌<◌, ◌%◌, ◌^◌, ◌-◌, Bool, true, false, not, ◌&&◌, cond, List, [], ◌∷◌, map, length, slice_index, Some, None}
use Rattle.std.specs.List.{list_any, filter}
use mathlib.Core.Option.{some}
use lib.ListN.{get_elem?}
use Rattle.atomic_table.specs.Table.{State, Me, Step}
use Rattle.atomic_table.specs.Seated.{TableId}
use Rattle.atomic_table.specs.declared.shared.Seat.{Seat}
use Rattle.seat_views.specs.Keeping.{kept_at, Keeps}
use Rattle.latch_table.specs.declared.sight.LatchSight.{LatchSight}
use Rattle.latch_table.specs.declared.sight.CellWord.{CellWord}

-- ---- version words

-- an odd word is of a cell that is held, an even one of a cell that is free
abbrev pub IsOdd : ℕ → Type 0
IsOdd word = word % 2 ≡ 1

abbrev pub IsEven : ℕ → Type 0
IsEven word = word % 2 ≡ 0

-- the last even word that a cell has; it isn't taken any more
abbrev pub last_word : ℕ
last_word = 2 ^ 64 - 2

-- the word that a release stores: two higher where the cell was changed, else the one that was found
abbrev pub word_after : ℕ → Bool → ℕ
word_after found changed = cond changed (found + 2) found

-- ---- cells that a pass holds

-- the cell is among them
abbrev pub is_held : ℕ → List ℕ → Bool
is_held c cells = list_any (λ d. c == d) cells

-- all but one
abbrev pub without_cell : ℕ → List ℕ → List ℕ
without_cell c cells = filter (λ d. not (c == d)) cells

-- the cells whose slots are out with a seat
abbrev pub out_of : {S : Type 0} → List (ℕ × S) → List ℕ
out_of slots = map (λ x. x.0) slots

-- no cell stands twice
abbrev pub is_once : List ℕ → Bool
is_once [] = true
is_once (c ∷ cs) = not (is_held c cs) && is_once cs

-- ---- what a seat knows

-- the number of the first entry, and its cells
abbrev pub first_number : List (ℕ × List ℕ) → ℕ
first_number [] = 0
first_number (e ∷ es) = e.0

abbrev pub first_cells : List (ℕ × List ℕ) → List ℕ
first_cells [] = []
first_cells (e ∷ es) = e.1

abbrev pub cell_word : ℕ → ℕ → CellWord
cell_word c n = record { cell = c; word = n }

module _ {K : Type 0} where
  -- the number of a seat's pass, and the cells that it holds
  abbrev pub number_of : LatchSight K → ℕ
  number_of v = first_number v.passes

  abbrev pub cells_of : LatchSight K → List ℕ
  cells_of v = first_cells v.passes

  -- a step found this word
  abbrev pub looked : LatchSight K → ℕ → ℕ → LatchSight K
  looked v c n = record v { looks = cell_word c n ∷ v.looks }

  -- the cell was taken, where its word was this
  abbrev pub took : LatchSight K → ℕ → ℕ → LatchSight K
  took v c n = record v { passes = (number_of v, c ∷ cells_of v) ∷ v.passes; looks = cell_word c n ∷ v.looks }

  -- the cell was given back with this word
  abbrev pub gave : LatchSight K → ℕ → ℕ → LatchSight K
  gave v c n = record v {
    passes = (number_of v, without_cell c (cells_of v)) ∷ v.passes;
    stored = cell_word c n ∷ v.stored;
  }

-- ---- the rule

module _ {S K : Type 0} where
  pub record IsLatched (fits : K → ℕ → S → Type 0) (passes : ℕ) (k : K)
      (s : State S (LatchSight K)) : Type 0 where
    -- each word has a slot
    pub wide : length s.words ≡ length s.homes
    -- whoever knows a key knows the table's
    pub known : (j : ℕ) (v : LatchSight K) (x : K) → get_elem? s.views j ≡ some v → v.key ≡ Some x → x ≡ k
    -- the slot of a free cell is at home, with a value that fits
    pub home : (c : ℕ) → c < length s.homes → IsEven (slice_index s.words c)
        → (v : S) × (get_elem? s.homes c ≡ some (some v)) × fits k c v
    -- the cells that each pass holds, known to its seat
    pub holds : ℕ → List ℕ
    pub keeper : ℕ → ℕ
    pub kept : Keeps (λ (v : LatchSight K). v.passes) s.views holds keeper
    -- a word is odd exactly where a pass holds the cell
    pub held : (c : ℕ) → c < length s.homes → IsOdd (slice_index s.words c)
        → (p : ℕ) × (p < passes) × (is_held c (holds p) ≡ true)
    pub odd : (c p : ℕ) → is_held c (holds p) ≡ true → IsOdd (slice_index s.words c)
    -- no two passes hold one cell
    pub alone : (c p q : ℕ) → is_held c (holds p) ≡ true → is_held c (holds q) ≡ true → p ≡ q

  -- a compare-exchange took the cell's slot with a value that fits, where it found the word that was expected
  pub record Took (fits : K → ℕ → S → Type 0) (st : Step S) (before : Me S (LatchSight K)) (n : ℕ)
      (after : Me S (LatchSight K)) : Type 0 where
    pub hit : n ≡ st.first → (value : S) × (after ≡ (took before.0 st.word n, (st.word, value) ∷ before.1))
        × ((k : K) → before.0.key ≡ Some k → fits k st.word value)
        × (is_held st.word (cells_of before.0) ≡ false)
    pub miss : n ≢ st.first → after ≡ (looked before.0 st.word n, before.1)

  -- ---- a seat of one pass

  -- it knows the key, and of one pass the cells that this holds, which are those whose slots it has
  pub record IsPassSeat (passes : ℕ) (k : K) (me : Me S (LatchSight K)) : Type 0 where
    pub key : me.0.key ≡ Some k
    pub small : number_of me.0 < passes
    pub some : kept_at me.0.passes (number_of me.0) ≡ Some (cells_of me.0)
    pub only : (p : ℕ) → p ≢ number_of me.0 → kept_at me.0.passes p ≡ None
    pub same : (c : ℕ) → is_held c (cells_of me.0) ≡ is_held c (out_of me.1)
    pub once : is_once (out_of me.1) ≡ true

  -- the seat is of this table
  pub record IsPassOf (passes : ℕ) (k : K) (id : TableId) (pass : Seat S (LatchSight K)) : Type 0 where
    pub table : pass.table_id ≡ id
    pub seat : IsPassSeat passes k pass.me

  -- and its pass holds no cell
  pub record IsIdle (passes : ℕ) (k : K) (id : TableId) (pass : Seat S (LatchSight K)) : Type 0 where
    pub of : IsPassOf passes k id pass
    pub none : pass.me.1 ≡ []

-- ---- why a cell wasn't taken

-- the load of this call found an odd word or the last one, or its compare-exchange found another word than the
-- load
abbrev pub IsBusy : ℕ → ℕ → List CellWord → List CellWord → Type 0
IsBusy cell found old new =
    ((new ≡ cell_word cell found ∷ old) × (IsOdd found ⊎ (found ≡ last_word)))
    ⊎ ((loaded : ℕ) × (new ≡ cell_word cell found ∷ cell_word cell loaded ∷ old) × (found ≢ loaded))
