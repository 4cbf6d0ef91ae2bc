-- Words of a block that are stored one after the other.
use Rattle.std.proofs.Common.{◌≡◌, ℕ, zero, suc, ◌+◌, ◌*◌, ◌<◌, List, [], ◌∷◌, length, set, refl, sym, ◌∙◌, ap, subst, cond, arith, length-set, get_or-set_other, get_or-set_same}
use Rattle.std.specs.Prelude.{true, slice_get, slice_index, Some}
use mathlib.Core.Logic.{dite}
use native.Mathlib.Decide.{ℕ_discrete}
use Rattle.graph_model.specs.declared.row.Key.{Key}
use Rattle.graph_model.specs.declared.row.Row.{Row}
use Rattle.seat_views.specs.Keeping.{kept_at}
use Rattle.seat_views.proofs.NumberLemmas.{other_number, same_number, some_is}
use Rattle.rule_model.specs.CellsModel.Cells.{CellState, packed, stored}
use Rattle.rule_model.specs.CellsModel.Words.{Spells, block_words, flat, spelled}
use Rattle.rule_model.proofs.CellsModel.WordLemmas.{flat_at}
use Rattle.rule_model.specs.Sight.{HasCell, Sight, with_cell}
use Rattle.store_words.specs.Spelling.{CanSpell, IsPackedAgain, IsSpelling, KeepsOtherCells}

-- ---- the view

-- the cell is known then
pub has_now : (v w : Sight) (k : ℕ) (c : CellState) → w ≡ with_cell v k c → HasCell w k c
has_now v w k c is = ap (λ (u : Sight). kept_at u.cells k) is
    ∙ ap (λ b. cond b (Some c) (kept_at v.cells k)) (same_number k)

-- and all else is as it was
pub others_now : (v w : Sight) (k : ℕ) (c : CellState) → w ≡ with_cell v k c → KeepsOtherCells k v w
others_now v w k c is = record {
  passes = ap (λ (u : Sight). u.passes) is;
  pins = ap (λ (u : Sight). u.pins) is;
  cells = λ l other. ap (λ (u : Sight). kept_at u.cells l) is
      ∙ ap (λ b. cond b (Some c) (kept_at v.cells l)) (other_number l k other);
  indexes = ap (λ (u : Sight). u.indexes) is;
  journals = ap (λ (u : Sight). u.journals) is;
  told = ap (λ (u : Sight). u.told) is;
  readers = ap (λ (u : Sight). u.readers) is;
  reads = ap (λ (u : Sight). u.reads) is;
}

pub others_same : (v : Sight) (k : ℕ) → KeepsOtherCells k v v
others_same v k = record {
  passes = refl;
  pins = refl;
  cells = λ l other. refl;
  indexes = refl;
  journals = refl;
  told = refl;
  readers = refl;
  reads = refl;
}

others_on : (k : ℕ) (u v w : Sight) → KeepsOtherCells k u v → KeepsOtherCells k v w → KeepsOtherCells k u w
others_on k u v w first then = record {
  passes = then.passes ∙ first.passes;
  pins = then.pins ∙ first.pins;
  cells = λ l other. then.cells l other ∙ first.cells l other;
  indexes = then.indexes ∙ first.indexes;
  journals = then.journals ∙ first.journals;
  told = then.told ∙ first.told;
  readers = then.readers ∙ first.readers;
  reads = then.reads ∙ first.reads;
}

-- ---- one word more

module _ (k : ℕ) (u : Sight) (c : CellState) (low high : Key) (rows : List Row) where
  pub starts_spelling : c.unpacked ≡ true → length c.block ≡ block_words → HasCell u k c
      → IsSpelling k u c low high rows 0 u
  starts_spelling loose wide has = record {
    cell = c;
    has = has;
    segment = refl;
    unpacked = loose;
    wide = wide;
    words = λ i n less at. absurd (omega arith);
    changed = λ some. absurd (omega arith);
    others = others_same u k;
  }

  -- it is stored
  pub spells_next : (j x : ℕ) (v w : Sight) → j + 1 < block_words → slice_get (spelled low high rows) j ≡ Some x
      → (is : IsSpelling k u c low high rows j v) → w ≡ with_cell v k (stored is.cell (j + 1) x)
      → IsSpelling k u c low high rows (j + 1) w
  spells_next j x v w inside here is w_is = record {
    cell = stored is.cell (j + 1) x;
    has = has_now v w k (stored is.cell (j + 1) x) w_is;
    segment = is.segment;
    unpacked = is.unpacked;
    wide = length-set is.cell.block (j + 1) x ∙ is.wide;
    words = λ i n less at. dite (ℕ_discrete i j)
        (λ same. ap (λ m. slice_index (set is.cell.block (j + 1) x) (m + 1)) same
        ∙ get_or-set_same is.cell.block (j + 1) x 0 (let wide = is.wide in omega (arith, inside))
        ∙ some_is x n (sym here ∙ ap (slice_get (spelled low high rows)) (sym same) ∙ at))
        (λ other. get_or-set_other is.cell.block (j + 1) (i + 1) x 0 (λ e. other (omega arith))
        ∙ is.words i n (omega arith) at);
    changed = λ some. refl;
    others = others_on k u v w is.others (others_now v w k (stored is.cell (j + 1) x) w_is);
  }

  -- or it stands there
  pub stands_next : (j x : ℕ) (v : Sight) → 0 < j → slice_get (spelled low high rows) j ≡ Some x
      → (is : IsSpelling k u c low high rows j v) → x ≡ slice_index is.cell.block (j + 1)
      → IsSpelling k u c low high rows (j + 1) v
  stands_next j x v some here is stands = record {
    cell = is.cell;
    has = is.has;
    segment = is.segment;
    unpacked = is.unpacked;
    wide = is.wide;
    words = λ i n less at. dite (ℕ_discrete i j)
        (λ same. ap (λ m. slice_index is.cell.block (m + 1)) same ∙ sym stands
        ∙ some_is x n (sym here ∙ ap (slice_get (spelled low high rows)) (sym same) ∙ at))
        (λ other. is.words i n (omega arith) at);
    changed = λ more. is.changed some;
    others = is.others;
  }

-- ---- the words of a row among those of the block

pub spelled_row : (low high : Key) (rows : List Row) (p : ℕ) (row : Row) → slice_get rows p ≡ Some row
    → (slice_get (spelled low high rows) (5 + 3 * p) ≡ Some row.key.src)
    × (slice_get (spelled low high rows) (5 + 3 * p + 1) ≡ Some row.key.second)
    × (slice_get (spelled low high rows) (5 + 3 * p + 2) ≡ Some row.weight)
spelled_row low high rows p row e =
    let h = flat_at rows p (3 * p) row refl e in
    let m : ℕ = 3 * p in
    let a : 5 + m ≡ suc (suc (suc (suc (suc m)))) = omega arith in
    let b : 5 + m + 1 ≡ suc (suc (suc (suc (suc (suc m))))) = omega arith in
    let d : 5 + m + 2 ≡ suc (suc (suc (suc (suc (suc (suc m)))))) = omega arith in (
      ap (slice_get (spelled low high rows)) a ∙ h.0,
      ap (slice_get (spelled low high rows)) b ∙ h.1,
      ap (slice_get (spelled low high rows)) d ∙ h.2,
    )

-- ---- all words

length-flat : (rows : List Row) → length (flat rows) ≡ 3 * length rows
length-flat [] = refl
length-flat (r ∷ rs) = let rest = length-flat rs in omega (arith, rest)

get_inside : (xs : List ℕ) (i n : ℕ) → slice_get xs i ≡ Some n → i < length xs
get_inside [] i n e = cc
get_inside (x ∷ xs) zero n e = omega arith
get_inside (x ∷ xs) (suc i) n e = let less = get_inside xs i n e in omega arith

-- once all words are stored the block spells the contents
pub spells_all : (k : ℕ) (u : Sight) (c : CellState) (low high : Key) (rows : List Row) (w : Sight)
    → CanSpell low high rows c.segment
    → (is : IsSpelling k u c low high rows (5 + 3 * length rows) w) → Spells is.cell.block is.cell.segment
spells_all k u c low high rows w can is = subst (Spells is.cell.block) (sym is.segment) (record {
  wide = is.wide;
  words = λ i n at.
      let here : slice_get (spelled low high rows) i ≡ Some n =
      (λ t. slice_get (spelled (can.low_is t) (can.high_is t) (can.rows_are t)) i) ∙ at in
      let inside = get_inside (spelled low high rows) i n here in
      let all = length-flat rows in
      is.words i n (omega (arith, inside, all)) here;
  sound = can.sound;
  small = can.small;
})

-- ---- a cell that is packed

pub packs_spelled : (k : ℕ) (u : Sight) (c : CellState) (low high : Key) (rows : List Row) (count : ℕ) (v w : Sight)
    → (is : IsSpelling k u c low high rows count v) → w ≡ with_cell v k (packed is.cell)
    → IsPackedAgain k u c w
packs_spelled k u c low high rows count v w is w_is = record {
  cell = packed is.cell;
  has = has_now v w k (packed is.cell) w_is;
  segment = is.segment;
  packed = refl;
  others = others_on k u v w is.others (others_now v w k (packed is.cell) w_is);
}

pub packs_same : (k : ℕ) (u : Sight) (c : CellState) (w : Sight) → w ≡ with_cell u k (packed c)
    → IsPackedAgain k u c w
packs_same k u c w w_is = record {
  cell = packed c;
  has = has_now u w k (packed c) w_is;
  segment = refl;
  packed = refl;
  others = others_now u w k (packed c) w_is;
}
