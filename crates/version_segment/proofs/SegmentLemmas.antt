-- What holds of each segment.
use Rattle.std.proofs.Common.{◌≡◌, ℕ, ◌≤◌, List, [], ◌∷◌, length, refl, ◌∙◌, Some, None}
use Rattle.std.specs.Prelude.{Bool, true, false, ◌&&◌, ◌||◌, not, cond, is_some}
use Rattle.std.specs.List.{AllByRecursion}
use Rattle.graph_model.specs.declared.row.Row.{Row}
use Rattle.graph_model.specs.declared.limits.TheConstants.{SEGMENT_ROWS}
use Rattle.graph_model.specs.Rows.{is_between}
use Rattle.gap_segment.specs.Fenced.{FencedRows, AreWithin}
use Rattle.row_table.specs.UndoChain.Chains.{ChainMap, list_at}
use Rattle.row_table.specs.HeadMapDeclared.heads.Heads.{Heads}
use Rattle.row_table.specs.Rows.{IsSegment, is_nothing}
use Rattle.row_table.specs.HeadMap.Heads.{HeadTable, heads_at}
use Rattle.row_table.specs.Lists.{AreHeads, HasRest}
use Rattle.row_table.specs.Parts.{versioned, versions_in, value_in, view_of, AreParts}
use Rattle.row_table.proofs.PartLemmas.{rows_rise, list_there, nothing_of}
use Rattle.row_table.proofs.PruneLemmas.{versioned_rise}

-- a row is never nothing
row_something : (c : ChainMap) (h : Heads) (w : ℕ) → AreHeads c h → HasRest h → is_nothing (versions_in c h w) ≡ false
row_something c h w at rest =
    nothing_of (value_in h w) (list_at c h.undos) (list_at c h.touches)
    ∙ (λ i. list_there c h.undos at.undos i && (list_there c h.touches at.touches i && not (is_some (value_in h w))))
    ∙ go h.has_value (is_some h.undos) (is_some h.touches) rest
  where
    go : (v x y : Bool) → (v ≡ false → (x || y) ≡ true) → (not x && (not y && not (is_some (cond v (Some w) None)))) ≡ false
    go true true y r = refl
    go true false true r = refl
    go true false false r = refl
    go false true y r = refl
    go false false true r = refl
    go false false false r = clash (r refl)
      where
        clash : false ≡ true → true ≡ false
        clash e = cc

module _ (rows : FencedRows) (heads : HeadTable) (c : ChainMap) (is : AreParts rows heads.entries c) where
  all_within : (rs : List Row) → AreWithin rows.low rows.high rs → AllByRecursion (λ e. is_between rows.low rows.high e.0 ≡ true) (versioned c heads.entries rs)
  all_within [] h = tt
  all_within (r ∷ rs) h = (h.0, all_within rs h.1)

  all_something : (rs : List Row) → AllByRecursion (λ e. is_nothing e.1 ≡ false) (versioned c heads.entries rs)
  all_something [] = tt
  all_something (r ∷ rs) = (row_something c (heads_at heads.entries r.key) r.weight (is.lists.heads r.key) (is.rest r.key), all_something rs)

  pub is_segment : length (view_of rows heads c).rows ≤ SEGMENT_ROWS → IsSegment (view_of rows heads c)
  is_segment small = record {
    fences = is.fenced.fences;
    rising = versioned_rise heads.entries c rows.rows (rows_rise rows.rows is.fenced.sorted);
    within = all_within rows.rows is.fenced.within;
    something = all_something rows.rows;
    small = small;
  }
