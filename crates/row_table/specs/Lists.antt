-- Whose lists of records stand where: no two rows share one.
use Rattle.std.specs.Prelude.{◌≡◌, ℕ, true, false, ◌||◌, is_some, Option}
use Rattle.std.specs.Ordering.{eq_by_cmp}
use Rattle.graph_model.specs.declared.row.Key.{Key}
use Rattle.graph_model.specs.Rows.{key_cmp}
use Rattle.head_map.specs.UndoChain.Chains.{ChainMap, list_at, IsHeadOf, AreApart}
use Rattle.head_map.specs.declared.heads.Heads.{Heads}

-- a row's records and its touches stand in lists of their own
pub record AreHeads (c : ChainMap) (h : Heads) : Type 0 where
  pub undos : IsHeadOf c h.undos
  pub touches : IsHeadOf c h.touches
  pub own : AreApart h.undos h.touches

-- two lists aren't those of a row
pub record AreOthers (h : Heads) (undos touches : Option ℕ) : Type 0 where
  pub undos_undos : AreApart undos h.undos
  pub undos_touches : AreApart undos h.touches
  pub touches_undos : AreApart touches h.undos
  pub touches_touches : AreApart touches h.touches

-- the heads of all rows, as a function of keys
pub record AreLists (c : ChainMap) (f : Key → Heads) : Type 0 where
  pub heads : (q : Key) → AreHeads c (f q)
  pub apart : (p q : Key) → eq_by_cmp key_cmp p q ≡ false → AreOthers (f q) (f p).undos (f p).touches

-- another row, when one is changed: its lists are as they were
pub record RowStays (old new : ChainMap) (h : Heads) (undos touches : Option ℕ) : Type 0 where
  pub heads : AreHeads new h
  pub same_undos : list_at new h.undos ≡ list_at old h.undos
  pub same_touches : list_at new h.touches ≡ list_at old h.touches
  pub apart : AreOthers h undos touches

-- the lists of one row stand under these heads now, and those of all others are as they were
pub record ChangesRow (old new : ChainMap) (f : Key → Heads) (key : Key) (undos touches : Option ℕ) : Type 0 where
  pub undos_head : IsHeadOf new undos
  pub touches_head : IsHeadOf new touches
  pub own : AreApart undos touches
  pub others : (q : Key) → eq_by_cmp key_cmp q key ≡ false → RowStays old new (f q) undos touches

-- a row without value has a record
abbrev pub HasRest : Heads → Type 0
HasRest h = h.has_value ≡ false → (is_some h.undos || is_some h.touches) ≡ true
