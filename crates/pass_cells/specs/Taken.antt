-- Cells that a pass has taken, as rows that a writer holds.
use Rattle.std.specs.Prelude.{◌≡◌, ℕ, zero, suc, ◌+◌, ◌-◌, ◌<◌, ◌==◌, Bool, true, false, cond, List, [], ◌∷◌, length, map, take, vec_capacity, Option, Some, None}
use Rattle.std.proofs.Common.{refl, ◌∙◌}
use Rattle.std.specs.List.{AllByRecursion, list_any}
use Rattle.graph_model.specs.declared.limits.TheConstants.{SEGMENT_ROWS}
use Rattle.graph_model.specs.declared.row.Key.{Key}
use Rattle.graph_model.specs.Rows.{first_key, is_below}
use Rattle.row_writes.specs.VersionSegment.Resting.{word_rows}
use Rattle.row_writes.specs.VersionSegment.Rows.{VersionedRows, IsSameSegment, IsSegment, has_row, versions_at}
use Rattle.row_writes.specs.VersionSegmentDeclared.change.RowChange.{RowChange}
use Rattle.row_writes.specs.VersionSegmentDeclared.change.RowChange.TheVariants.{Write, Undo, Touch, Untouch}
use Rattle.row_writes.specs.Held.{HeldRows}
use Rattle.store_rule.specs.CellsModel.Indexed.{covers}
use Rattle.pass_cells.specs.declared.taken.TakenCell.{TakenCell}
use Rattle.pass_cells.specs.declared.taken.TakenCells.{TakenCells}

-- ---- the cells of keys

-- a cell that covers no key
abbrev pub no_cell : VersionedRows
no_cell = record { low = first_key; high = first_key; rows = []; spare = 0 }

-- the contents of the first of these cells that covers the key
abbrev pub cell_at : List TakenCell → Key → VersionedRows
cell_at [] q = no_cell
cell_at (t ∷ ts) q = cond (covers t.held.value q) t.held.value (cell_at ts q)

-- one of them covers the key
abbrev pub has_cell : List TakenCell → Key → Bool
has_cell ts q = list_any (λ t. covers t.held.value q) ts

-- so many rows have come since the pass last told of them, in all cells that have grown
abbrev pub rows_come : List TakenCell → ℕ
rows_come [] = 0
rows_come (t ∷ ts) = (length t.held.value.rows - t.rows) + rows_come ts

-- what a writer finds in them
abbrev pub held_rows : List TakenCell → HeldRows
held_rows ts = record {
  holds = has_cell ts;
  versions = λ q. versions_at (cell_at ts q) q;
  has_row = λ q. has_row (cell_at ts q) q;
  shares = λ p q. covers (cell_at ts p) q;
  room = λ q. SEGMENT_ROWS - length (cell_at ts q).rows;
  spare = λ q. (cell_at ts q).spare;
  weight = rows_come ts;
}

abbrev pub rows_in : TakenCells → HeldRows
rows_in t = held_rows t.list.items

-- ---- what a change keeps

-- a change of a row may change words of its cell's block; no word tells of touches
abbrev pub changes_words : RowChange → Bool
changes_words (Write value) = true
changes_words Undo = true
changes_words (Touch earlier) = false
changes_words Untouch = true

-- It is the same cell, between the same fence keys, and a segment if it was one. Where its value isn't said to be
-- changed, it wasn't before, and its rows are as they were; and so of its words.
pub record KeepsCell (old new : TakenCell) : Type 0 where
  pub cell : new.held.cell ≡ old.held.cell
  pub rows : new.rows ≡ old.rows
  pub low : new.held.value.low ≡ old.held.value.low
  pub high : new.held.value.high ≡ old.held.value.high
  pub sound : IsSegment old.held.value → IsSegment new.held.value
  pub unmarked : new.held.changed ≡ false
      → (old.held.changed ≡ false) × IsSameSegment old.held.value new.held.value
  pub same : new.words_changed ≡ false
      → (old.words_changed ≡ false) × (word_rows new.held.value ≡ word_rows old.held.value)

abbrev pub KeepCells : List TakenCell → List TakenCell → Type 0
KeepCells [] [] = Unit {0}
KeepCells (t ∷ ts) (u ∷ us) = KeepsCell t u × KeepCells ts us
KeepCells [] (u ∷ us) = ⊥
KeepCells (t ∷ ts) [] = ⊥

pub record KeepsTaken (old new : TakenCells) : Type 0 where
  pub each : KeepCells old.list.items new.list.items
  pub room : vec_capacity new.list ≡ vec_capacity old.list

-- so nothing keeps all, and two changes keep what both keep
pub keeps_one : (t : TakenCell) → KeepsCell t t
keeps_one t = record {
  cell = refl;
  rows = refl;
  low = refl;
  high = refl;
  sound = λ s. s;
  unmarked = λ e. (e, record { low = refl; high = refl; rows = refl });
  same = λ e. (e, refl);
}

pub keep_all : (ts : List TakenCell) → KeepCells ts ts
keep_all [] = tt
keep_all (t ∷ ts) = (keeps_one t, keep_all ts)

keeps_two : (t u v : TakenCell) → KeepsCell t u → KeepsCell u v → KeepsCell t v
keeps_two t u v one two = record {
  cell = two.cell ∙ one.cell;
  rows = two.rows ∙ one.rows;
  low = two.low ∙ one.low;
  high = two.high ∙ one.high;
  sound = λ s. two.sound (one.sound s);
  unmarked = λ e.
      let second = two.unmarked e in
      let first = one.unmarked second.0 in (
        first.0,
        record {
          low = second.1.low ∙ first.1.low;
          high = second.1.high ∙ first.1.high;
          rows = second.1.rows ∙ first.1.rows;
        },
      );
  same = λ e.
      let second = two.same e in
      let first = one.same second.0 in (
        first.0,
        second.1 ∙ first.1,
      );
}

keep_on : (ts us vs : List TakenCell) → KeepCells ts us → KeepCells us vs → KeepCells ts vs
keep_on [] [] [] one two = tt
keep_on (t ∷ ts) (u ∷ us) (v ∷ vs) one two = (keeps_two t u v one.0 two.0, keep_on ts us vs one.1 two.1)
keep_on [] [] (v ∷ vs) one two = two
keep_on [] (u ∷ us) vs one two = absurd one
keep_on (t ∷ ts) [] vs one two = absurd one
keep_on (t ∷ ts) (u ∷ us) [] one two = two

pub keeps_itself : (t : TakenCells) → KeepsTaken t t
keeps_itself t = record { each = keep_all t.list.items; room = refl }

pub keeps_on : (t u v : TakenCells) → KeepsTaken t u → KeepsTaken u v → KeepsTaken t v
keeps_on t u v one two = record {
  each = keep_on t.list.items u.list.items v.list.items one.each two.each;
  room = two.room ∙ one.room;
}

-- all rows that are there are known
abbrev pub counted : List TakenCell → List TakenCell
counted ts = map {A = TakenCell} (λ t. record t { rows = length t.held.value.rows }) ts

-- ---- the order of cells

-- the cell of that number is among them
abbrev pub is_taken : ℕ → List TakenCell → Bool
is_taken k ts = list_any (λ t. k == t.held.cell) ts

-- no cell is among them twice
abbrev pub AreApart : List TakenCell → Type 0
AreApart [] = Unit {0}
AreApart (t ∷ ts) = (is_taken t.held.cell ts ≡ false) × AreApart ts

-- where the last of them ends, or the given key
abbrev pub end_from : Key → List TakenCell → Key
end_from low [] = low
end_from low (t ∷ ts) = end_from t.held.value.high ts

-- each begins where the one before it ends, or above, and covers a key
abbrev pub AreFrom : Key → List TakenCell → Type 0
AreFrom low [] = Unit {0}
AreFrom low (t ∷ ts) = (is_below t.held.value.low low ≡ false)
    × (is_below t.held.value.low t.held.value.high ≡ true) × AreFrom t.held.value.high ts

-- they stand in the order of their fence keys, and no key is covered by two
abbrev pub AreRising : List TakenCell → Type 0
AreRising ts = AreFrom first_key ts

abbrev pub end_of : List TakenCell → Key
end_of ts = end_from first_key ts

-- ---- the cell of a key by its place

-- the cell at this place is the first that covers the key
abbrev pub IsPlace : List TakenCell → Key → ℕ → Type 0
IsPlace [] q place = ⊥
IsPlace (t ∷ ts) q zero = covers t.held.value q ≡ true
IsPlace (t ∷ ts) q (suc place) = (covers t.held.value q ≡ false) × IsPlace ts q place

-- ---- keys that no cell covers

-- of so many first keys each has its cell, or this is the place of one of all
abbrev pub IsMissingOf : List TakenCell → List Key → ℕ → Option ℕ → Type 0
IsMissingOf ts keys count None = AllByRecursion (λ k. has_cell ts k ≡ true) (take count keys)
IsMissingOf ts keys count (Some place) = place < length keys

-- each of these keys has its cell, or this is the place of one of them
abbrev pub IsMissing : List TakenCell → List Key → Option ℕ → Type 0
IsMissing ts keys None = AllByRecursion (λ k. has_cell ts k ≡ true) keys
IsMissing ts keys (Some place) = place < length keys
