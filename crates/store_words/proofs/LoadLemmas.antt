-- Rows that a holder loads from a block, and what a seat is told that knows all.
use Rattle.std.proofs.Common.{◌≡◌, ℕ, zero, suc, ◌+◌, ◌*◌, ◌<◌, List, [], ◌∷◌, ◌++◌, length, take, refl, sym, ◌∙◌, ap, arith}
use Rattle.std.specs.Prelude.{slice_get, slice_index, Some}
use Rattle.std.specs.declared.alloc.Global.{Global}
use Rattle.atomic_table.specs.Table.{keeps}
use Rattle.graph_model.specs.declared.row.Row.{Row}
use Rattle.seat_views.proofs.NumberLemmas.{some_is}
use Rattle.txn_manager.specs.declared.config.Config.{Config}
use Rattle.rule_model.specs.StoreRelation.Shared.{JournalState}
use Rattle.rule_model.specs.VersionSegment.Rows.{VersionedRows}
use Rattle.rule_model.specs.VersionSegment.Resting.{word_rows}
use Rattle.rule_model.specs.CellsModel.Words.{IsRowAt, Spells}
use Rattle.rule_model.proofs.CellsModel.WordLemmas.{row_is_told}
use Rattle.rule_model.specs.EndSteps.{HasAll}
use Rattle.rule_model.specs.LastSteps.{IsLastStore}
use Rattle.rule_model.specs.Places.{lines}
use Rattle.rule_model.specs.Steps.{AllowsLoad}
use Rattle.rule_model.proofs.EndLemmas.{store_closes}
use Rattle.rule_model.proofs.FrameLemmas.{M, by_nothing, own_read}

-- ---- lists

-- one more of the first ones
pub take_next : (xs : List Row) (p : ℕ) (x : Row) → slice_get xs p ≡ Some x → take (p + 1) xs ≡ take p xs ++ x ∷ []
take_next xs p x e = let one : p + 1 ≡ suc p = omega arith in ap (λ n. take n xs) one ∙ next xs p x e
  where
    next : (xs : List Row) (p : ℕ) (x : Row) → slice_get xs p ≡ Some x → take (suc p) xs ≡ take p xs ++ x ∷ []
    next [] p x e = cc
    next (y ∷ ys) zero x e = λ i. some_is y x e i ∷ []
    next (y ∷ ys) (suc p) x e = ap (λ l. y ∷ l) (next ys p x e)

row_there : (xs : List Row) (p : ℕ) → p < length xs → (x : Row) × (slice_get xs p ≡ Some x)
row_there [] p less = absurd (omega arith)
row_there (y ∷ ys) zero less = (y, refl)
row_there (y ∷ ys) (suc p) less = row_there ys p (omega arith)

-- ---- a row

-- its words are those of a row of the contents
pub loaded_row : (block : List ℕ) (s : VersionedRows) (p : ℕ) (row : Row) → Spells block s → IsRowAt block p row
    → p < length (word_rows s) → slice_get (word_rows s) p ≡ Some row
loaded_row block s p row spells at less =
    let t = row_there (word_rows s) p less in
    let told = row_is_told block s spells p t.0 t.1 in
    t.1 ∙ (λ i. Some (record {
      key = record { src = (sym told.src ∙ at.src) i; second = (sym told.second ∙ at.second) i };
      weight = (sym told.value ∙ at.value) i;
    }))

-- the three words that were loaded are those of the row
pub row_loaded : (block : List ℕ) (p word : ℕ) (row : Row) → word ≡ 6 + 3 * p → row.key.src ≡ slice_index block word
    → row.key.second ≡ slice_index block (word + 1) → row.weight ≡ slice_index block (word + 2) → IsRowAt block p row
row_loaded block p word row is src second weight =
    let a : 6 + 3 * p ≡ word = omega (arith, is) in
    let b : 7 + 3 * p ≡ word + 1 = omega (arith, is) in
    let d : 8 + 3 * p ≡ word + 2 = omega (arith, is) in
    record {
      src = ap (slice_index block) a ∙ sym src;
      second = ap (slice_index block) b ∙ sym second;
      value = ap (slice_index block) d ∙ sym weight;
    }

-- ---- the end

-- a load of the clock tells a seat that has all of a store that this is a closed one
pub looks_last : (z : Config) (heap : Global) (slots id : ℕ) (me : M)
    → AllowsLoad z (lines z.passes) heap slots id me (lines z.passes).clock (λ n. me.0)
    (λ n. (j : JournalState) → HasAll z me.0 j → IsLastStore z me.0 j)
looks_last z heap slots id me s r homes here bound = (
  me.0,
  keeps,
  tt,
  by_nothing r id me here (lines z.passes).clock me.0.reads (own_read r id me here),
  (refl, λ j all. store_closes z (lines z.passes) heap s r id me.0 here j all),
)
