-- Ranges of keys, and which keys a list of them covers.
use Rattle.std.specs.Prelude.{◌≡◌, ℕ, ◌+◌, ◌<◌, ◌≤◌, Bool, true, cond, List, slice_get, Some}
use Rattle.std.specs.List.{list_any}
use Rattle.graph_model.specs.declared.limits.TheConstants.{MAX_ID}
use Rattle.graph_model.specs.declared.row.Key.{Key}
use Rattle.graph_model.specs.Rows.{is_below, is_between}
use Rattle.serial_check.specs.declared.range.FootprintRange.{FootprintRange}

-- the range has the key
abbrev pub holds : FootprintRange → Key → Bool
holds range q = is_between range.from range.until q

-- one of the ranges has the key
abbrev pub covers : List FootprintRange → Key → Bool
covers ranges q = list_any (λ range. holds range q) ranges

-- from where the first of two ranges begins, or this one, up to where the last of them ends, or this one
abbrev pub joined : FootprintRange → FootprintRange → FootprintRange → FootprintRange
joined range first last = record {
  from = cond (is_below first.from range.from) first.from range.from;
  until = cond (is_below range.until last.until) last.until range.until;
}

-- the key of a row whose ids are within their limit
pub record IsRowKey (q : Key) : Type 0 where
  pub source : q.src ≤ MAX_ID
  pub second : q.second ≤ MAX_ID + 1

-- no range is empty, they rise, and no two of them meet or overlap
pub record AreApart (ranges : List FootprintRange) : Type 0 where
  pub some : (i : ℕ) (range : FootprintRange) → slice_get ranges i ≡ Some range → is_below range.from range.until ≡ true
  pub apart : (i j : ℕ) (a b : FootprintRange) → i < j → slice_get ranges i ≡ Some a → slice_get ranges j ≡ Some b
      → is_below a.until b.from ≡ true
