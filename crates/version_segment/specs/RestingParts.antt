-- The parts of a segment at rest. Only the crate itself speaks of them.
use Rattle.std.specs.Prelude.{◌≡◌, ℕ, zero, suc, ◌<◌, ◌≤◌, true, false, not, is_some, min, List, [], ◌∷◌, length, map, take, Option, Some, None}
use Rattle.std.specs.List.{list_any}
use Rattle.graph_model.specs.declared.journal.TxnName.{TxnName}
use Rattle.graph_model.specs.declared.row.Key.{Key}
use Rattle.graph_model.specs.declared.row.Row.{Row}
use Rattle.graph_model.specs.declared.limits.TheConstants.{MAX_WEIGHT}
use Rattle.store_model.specs.Stamped.{StampedVersions}
use Rattle.row_table.specs.UndoChain.Chains.{ChainMap, list_at}
use Rattle.row_table.specs.UndoChain.States.{Grows, Knowledge}
use Rattle.row_table.specs.UndoChain.Records.{outlasts, stamped_by}
use Rattle.row_table.specs.HeadMapDeclared.heads.Heads.{Heads}
use Rattle.row_table.specs.HeadMap.Heads.{PlacedRow, PlaceTable, heads_placed, settled_heads}
use Rattle.row_table.specs.Lists.{AreHeads, AreOthers, HasRest}
use Rattle.row_table.specs.Parts.{of_lists, value_in}
use Rattle.row_table.specs.Rows.{range_of, rows_read}
use Rattle.version_segment.specs.Resting.{RestingRow, RestingRows, weight_in_word, woken_row, woken_rows, word_of}

-- ---- heads and records without rows

abbrev pub resting_at : ChainMap → Heads → RestingRow
resting_at c h =
    record { has_value = h.has_value; versions = of_lists None (list_at c h.undos) (list_at c h.touches) }

-- what is left of the rows at so many places
abbrev pub resting_places : ChainMap → ℕ → (ℕ → Heads) → List RestingRow
resting_places c zero f = []
resting_places c (suc count) f = resting_at c (f 0) ∷ resting_places c count (λ p. f (suc p))

abbrev pub resting_view : ChainMap → PlaceTable → ℕ → RestingRows
resting_view c heads count =
    record { rows = resting_places c count (heads_placed heads.entries); spare = min c.spare heads.spare }

-- no two places share a list, a row without value has a record, and behind so many places all rows are settled
pub record AreRestingParts (c : ChainMap) (f : ℕ → Heads) (count : ℕ) : Type 0 where
  pub heads : (p : ℕ) → AreHeads c (f p)
  pub apart : (p q : ℕ) → (p ≡ q → ⊥) → AreOthers (f q) (f p).undos (f p).touches
  pub rest : (p : ℕ) → HasRest (f p)
  pub behind : (p : ℕ) → count ≤ p → f p ≡ settled_heads

-- the row with these heads has a value, and none of its records outlasts this writer's stamp
pub record PlaceSettles (by : TxnName) (horizon : ℕ) (c : ChainMap) (h : Heads) : Type 0 where
  pub value : h.has_value ≡ true
  pub undos : list_any (outlasts by horizon) (list_at c h.undos) ≡ false
  pub touches : list_any (outlasts by horizon) (list_at c h.touches) ≡ false

-- the records of a writer have its stamp in both lists of a row
pub record StampsLists (by : TxnName) (number : ℕ) (old new : ChainMap) (h : Heads) : Type 0 where
  pub undos : list_at new h.undos ≡ map (stamped_by by number) (list_at old h.undos)
  pub touches : list_at new h.touches ≡ map (stamped_by by number) (list_at old h.touches)

-- both lists are as they were
pub record LeavesLists (old new : ChainMap) (h : Heads) : Type 0 where
  pub heads : AreHeads new h
  pub undos : list_at new h.undos ≡ list_at old h.undos
  pub touches : list_at new h.touches ≡ list_at old h.touches

-- in the row with these heads the records have their stamp, and rows with other lists are as they were
pub record StampsRow (by : TxnName) (number : ℕ) (old new : ChainMap) (h : Heads) : Type 0 where
  pub heads : AreHeads new h
  pub here : StampsLists by number old new h
  pub others : (g : Heads) → AreHeads old g → AreOthers g h.undos h.touches → LeavesLists old new g
  pub spare : new.spare ≡ old.spare

-- in the rows from a place on they have it, and all others are as they were
pub record StampsFrom (by : TxnName) (number : ℕ) (f : ℕ → Heads) (place : ℕ) (old new : ChainMap) : Type 0 where
  pub heads : (p : ℕ) → AreHeads new (f p)
  pub done : (p : ℕ) → place ≤ p → StampsLists by number old new (f p)
  pub left : (p : ℕ) → p < place → LeavesLists old new (f p)
  pub spare : new.spare ≡ old.spare

-- ---- rows that are read

-- what is seen of one row in a key range
abbrev pub seen_row : (StampedVersions → Option ℕ) → Key → Key → RestingRow → Row → List Row
seen_row read from until h row = rows_read read (range_of from until (woken_row h row ∷ []))

-- the rows before a place have been read
pub record IsReadTo (read : StampedVersions → Option ℕ) (from until : Key) (hs : List RestingRow) (words : List Row)
    (place : ℕ) (old now : Knowledge) (buffer : List Row) : Type 0 where
  pub rows : buffer ≡ rows_read read (range_of from until (take place (woken_rows hs words)))
  pub few : length buffer ≤ place
  pub grows : Grows old now

-- ---- rows with words, and with weights

-- the word of a row with these heads
abbrev pub head_word : Heads → ℕ → ℕ
head_word h weight = word_of (value_in h weight) (not (is_some h.undos))

abbrev pub words_from : (ℕ → Heads) → List Row → List Row
words_from f [] = []
words_from f (row ∷ rows) =
    record { key = row.key; weight = head_word (f 0) row.weight } ∷ words_from (λ p. f (suc p)) rows

-- the rows with the words of their values
abbrev pub placed_words : List PlacedRow → List Row → List Row
placed_words entries rows = words_from (heads_placed entries) rows

-- the rows with the weights that their words tell
abbrev pub plain_rows : List Row → List Row
plain_rows rows = map (λ row. record { key = row.key; weight = weight_in_word row.weight }) rows

-- the rows, of which so many first ones have another weight, by their place and the weight that they had
abbrev pub reweighed : (ℕ → ℕ → ℕ) → ℕ → List Row → List Row
reweighed weigh zero rows = rows
reweighed weigh (suc count) [] = []
reweighed weigh (suc count) (row ∷ rows) =
    record { key = row.key; weight = weigh 0 row.weight } ∷ reweighed (λ p. weigh (suc p)) count rows

-- the rows, of which those from a place on have another weight, by their place and the weight that they had
abbrev pub reweighed_from : (ℕ → ℕ → ℕ) → ℕ → List Row → List Row
reweighed_from weigh count [] = []
reweighed_from weigh zero (row ∷ rows) =
    record { key = row.key; weight = weigh 0 row.weight } ∷ reweighed_from (λ p. weigh (suc p)) zero rows
reweighed_from weigh (suc count) (row ∷ rows) = row ∷ reweighed_from (λ p. weigh (suc p)) count rows

-- each value is within its limit
abbrev pub AreSmallAt : (ℕ → Heads) → List Row → Type 0
AreSmallAt f [] = Unit {0}
AreSmallAt f (row ∷ rows) =
    (value_in (f 0) row.weight ≡ Some row.weight → row.weight ≤ MAX_WEIGHT) × AreSmallAt (λ p. f (suc p)) rows
