-- Several cells at once, in the order in which they were taken.
use Rattle.std.specs.Prelude.{◌≡◌, ℕ, ◌<◌, List, [], ◌∷◌, ◌++◌}
use Rattle.std.specs.List.{AllByRecursion}
use Rattle.latch_table.specs.declared.sight.CellWord.{CellWord}
use Rattle.latch_table.specs.declared.cells.Held.{Held}
use Rattle.latch_table.specs.declared.cells.Laid.{Laid}
use Rattle.latch_table.specs.Latched.{cell_word, word_after}

-- the word that a cell has once it is released
abbrev pub laid_word : Laid → CellWord
laid_word l = cell_word l.cell (word_after l.found l.changed)

-- the words that were stored, after these are stored one behind the other
abbrev pub stored_after : List CellWord → List CellWord → List CellWord
stored_after [] stored = stored
stored_after (w ∷ ws) stored = stored_after ws (w ∷ stored)

module _ {S : Type 0} where
  abbrev pub held_word : Held S → CellWord
  held_word h = cell_word h.cell (word_after h.found h.changed)

  -- the slots that are out where these cells were taken, the last one first
  abbrev pub taken_of : S → List (Held S) → List (ℕ × S)
  taken_of vacant [] = []
  taken_of vacant (h ∷ hs) = taken_of vacant hs ++ (h.cell, vacant) ∷ []

  -- the same with the values laid back
  abbrev pub laid_of : List (Held S) → List (ℕ × S)
  laid_of [] = []
  laid_of (h ∷ hs) = laid_of hs ++ (h.cell, h.value) ∷ []

  -- and the words that they have once they are released
  abbrev pub words_of : List (Held S) → List CellWord
  words_of [] = []
  words_of (h ∷ hs) = words_of hs ++ held_word h ∷ []

  -- each value fits its cell, and each cell is one of the table's
  abbrev pub AreHeldFit : (ℕ → S → Type 0) → ℕ → List (Held S) → Type 0
  AreHeldFit fits words helds = AllByRecursion (λ h. fits h.cell h.value × h.cell < words) helds

  -- these were laid in these slots, in this order
  abbrev pub AreLaid : (ℕ → S → Type 0) → ℕ → List Laid → List (ℕ × S) → Type 0
  AreLaid fits words [] [] = Unit {0}
  AreLaid fits words (l ∷ ls) (x ∷ xs) = ((value : S) × (x ≡ (l.cell, value)) × fits l.cell value
      × l.cell < words) × AreLaid fits words ls xs
  AreLaid fits words [] (x ∷ xs) = ⊥
  AreLaid fits words (l ∷ ls) [] = ⊥
