-- Rows that move between cells in hand.
use Rattle.std.specs.Prelude.{◌≡◌, ℕ, zero, suc, true, false, List, [], ◌∷◌, map}
use Rattle.pass_leaves.specs.VersionSegment.Rows.{VersionedRows, IsSameSegment, IsSegment}
use Rattle.pass_leaves.specs.CellsModel.Words.{HasSmallWeights}
use Rattle.pass_leaves.specs.PassCellsDeclared.taken.TakenCell.{TakenCell}

-- ---- contents

abbrev pub values_of : List TakenCell → List VersionedRows
values_of ts = map {A = TakenCell} (λ t. t.held.value) ts

-- it is the same cell with the same marks, and has these contents
pub record HasPut (old : TakenCell) (s : VersionedRows) (new : TakenCell) : Type 0 where
  pub cell : new.held.cell ≡ old.held.cell
  pub value_mark : new.held.changed ≡ old.held.changed
  pub mark : new.words_changed ≡ old.words_changed
  pub rows : new.rows ≡ old.rows
  pub value : new.held.value ≡ s

-- the cells have these contents, one after the other
abbrev pub HavePut : List TakenCell → List VersionedRows → List TakenCell → Type 0
HavePut [] [] [] = Unit {0}
HavePut (t ∷ ts) (s ∷ ss) (u ∷ us) = HasPut t s u × HavePut ts ss us
HavePut [] [] (u ∷ us) = ⊥
HavePut [] (s ∷ ss) us = ⊥
HavePut (t ∷ ts) [] us = ⊥
HavePut (t ∷ ts) (s ∷ ss) [] = ⊥

-- ---- marks

-- it is the same cell with the same contents, and is marked as changed
pub record IsMarked (old new : TakenCell) : Type 0 where
  pub cell : new.held.cell ≡ old.held.cell
  pub value_mark : new.held.changed ≡ true
  pub mark : new.words_changed ≡ true
  pub value : new.held.value ≡ old.held.value

-- so many cells behind the first ones are marked as changed, and all others are as they were
abbrev pub AreMarked : List TakenCell → List TakenCell → ℕ → ℕ → Type 0
AreMarked [] us first len = us ≡ []
AreMarked (t ∷ ts) [] first len = ⊥
AreMarked (t ∷ ts) (u ∷ us) (suc first) len = (u ≡ t) × AreMarked ts us first len
AreMarked (t ∷ ts) (u ∷ us) zero (suc len) = IsMarked t u × AreMarked ts us zero len
AreMarked (t ∷ ts) (u ∷ us) zero zero = (u ∷ us) ≡ t ∷ ts

-- ---- what a move leaves of cells

-- It is the same cell, with contents that may be packed. Where its value isn't said to be changed, or its words aren't,
-- neither were they before, and it has the contents that it had.
pub record MovesCell (old new : TakenCell) : Type 0 where
  pub cell : new.held.cell ≡ old.held.cell
  pub sound : IsSegment new.held.value
  pub small : HasSmallWeights new.held.value
  pub unmarked : new.held.changed ≡ false → (old.held.changed ≡ false) × IsSameSegment old.held.value new.held.value
  pub same : new.words_changed ≡ false → (old.words_changed ≡ false) × IsSameSegment old.held.value new.held.value

abbrev pub MoveCells : List TakenCell → List TakenCell → Type 0
MoveCells [] [] = Unit {0}
MoveCells (t ∷ ts) (u ∷ us) = MovesCell t u × MoveCells ts us
MoveCells [] (u ∷ us) = ⊥
MoveCells (t ∷ ts) [] = ⊥
