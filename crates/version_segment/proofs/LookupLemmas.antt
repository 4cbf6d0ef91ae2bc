-- Nothing changes where a key's versions stay.
use Rattle.std.proofs.Common.{◌≡◌, ℕ, List, [], ◌∷◌, refl, sym, ◌∙◌, ap, subst, cond, Some, None}
use Rattle.std.specs.Prelude.{true, false, not, drop, is_some, Option}
use Rattle.std.specs.List.{AllByRecursion}
use Rattle.std.specs.Ordering.{eq_by_cmp, is_lt, is_eq}
use Rattle.std.specs.declared.cmp.Ordering.TheVariants.{Less, Equal, Greater}
use Rattle.std.specs.FinMap.Entries.{find, put, where_key, by_order}
use Rattle.graph_model.specs.declared.row.Key.{Key}
use Rattle.graph_model.specs.declared.journal.TxnName.{TxnName}
use Rattle.graph_model.specs.Rows.{key_cmp, is_below}
use Rattle.graph_model.proofs.KeyLemmas.{below_chain}
use Rattle.store_model.specs.Stamped.{Stamped, StampedVersions}
use Rattle.row_table.specs.UndoChain.Records.{UndoRecord, newest_of, pairs_of}
use Rattle.row_table.specs.HeadMap.Keyed.{RisesBy}
use Rattle.row_table.specs.Rows.{VersionedRows, IsSegment, ChangesKey, nothing, or_nothing, is_nothing, versions_at, has_row, with_versions, undone, untouched, newest_writer}
use Rattle.row_table.proofs.HeadMap.KeyedLemmas.{below_untied}

-- a key below all rows has none
none_above : (key : Key) (rows : List (Key × StampedVersions)) → AllByRecursion (λ row. is_below key row.0 ≡ true) rows → find key_cmp key rows ≡ None
none_above key [] above = refl
none_above key (row ∷ rows) above = ap (λ t. cond t (Some row.1) (find key_cmp key rows)) (below_untied key row.0 above.0) ∙ none_above key rows above.1

all_above : (low key : Key) (rows : List (Key × StampedVersions)) → is_below low key ≡ true → AllByRecursion (λ row. is_below key row.0 ≡ true) rows → AllByRecursion (λ row. is_below low row.0 ≡ true) rows
all_above low key [] below above = tt
all_above low key (row ∷ rows) below above = (below_chain low key row.0 below above.0, all_above low key rows below above.1)

-- versions that a key has already
put_same : (key : Key) (vs : StampedVersions) (rows : List (Key × StampedVersions)) → RisesBy (λ row. row.0) rows → find key_cmp key rows ≡ Some vs → put key_cmp key vs rows ≡ rows
put_same key vs [] rises there = cc
put_same key vs (row ∷ rows) rises there = elim (key_cmp key row.0) as (λ o. key_cmp key row.0 ≡ o → cond (is_eq o) (Some row.1) (find key_cmp key rows) ≡ Some vs → by_order o ((key, vs) ∷ row ∷ rows) ((row.0, vs) ∷ rows) (row ∷ put key_cmp key vs rows) ≡ row ∷ rows) [
  | Less ↦ λ e h. let none = none_above key rows (all_above key row.0 rows (ap is_lt e) rises.0) in cc
  | Equal ↦ λ e h. let same : row.1 ≡ vs = cc in (λ i. (row.0, sym same i) ∷ rows)
  | Greater ↦ λ e h. ap (λ rs. row ∷ rs) (put_same key vs rows rises.1 h)
] refl there

-- a key that has none
without_same : (key : Key) (rows : List (Key × StampedVersions)) → find key_cmp key rows ≡ None → where_key key_cmp (λ q. not (eq_by_cmp key_cmp key q)) rows ≡ rows
without_same key [] none = refl
without_same key (row ∷ rows) none = elim (eq_by_cmp key_cmp key row.0) as (λ t. cond t (Some row.1) (find key_cmp key rows) ≡ None → cond (not t) (row ∷ where_key key_cmp (λ q. not (eq_by_cmp key_cmp key q)) rows) (where_key key_cmp (λ q. not (eq_by_cmp key_cmp key q)) rows) ≡ row ∷ rows) [
  | true ↦ λ h. cc
  | false ↦ λ h. ap (λ rs. row ∷ rs) (without_same key rows h)
] none

found_something : (key : Key) (vs : StampedVersions) (rows : List (Key × StampedVersions)) → AllByRecursion (λ row. is_nothing row.1 ≡ false) rows → find key_cmp key rows ≡ Some vs → is_nothing vs ≡ false
found_something key vs [] all there = cc
found_something key vs (row ∷ rows) all there = elim (eq_by_cmp key_cmp key row.0) as (λ t. cond t (Some row.1) (find key_cmp key rows) ≡ Some vs → is_nothing vs ≡ false) [
  | true ↦ λ h. let same : row.1 ≡ vs = cc in subst (λ x. is_nothing x ≡ false) same all.0
  | false ↦ λ h. found_something key vs rows all.1 h
] there

pub unchanged : (s : VersionedRows) (key : Key) → IsSegment s → ChangesKey s s key (versions_at s key)
unchanged s key sound = record { low = refl; high = refl; rows = by_row (find key_cmp key s.rows) refl }
  where
    by_row : (o : Option StampedVersions) → find key_cmp key s.rows ≡ o → s.rows ≡ with_versions key (or_nothing o) s.rows
    by_row None none = sym (without_same key s.rows none)
    by_row (Some vs) there =
        sym (ap (λ t. cond t (where_key key_cmp (λ q. not (eq_by_cmp key_cmp key q)) s.rows) (put key_cmp key vs s.rows)) (found_something key vs s.rows sound.something there)
        ∙ put_same key vs s.rows sound.rising there)

-- where there is no write nothing is taken back
pub none_undone : (s : VersionedRows) (key : Key) → IsSegment s → newest_writer (versions_at s key).pairs ≡ None → ChangesKey s s key (undone (versions_at s key))
none_undone s key sound none = subst (ChangesKey s s key) (sym (λ i. record (versions_at s key) { pairs = same (versions_at s key).pairs none i })) (unchanged s key sound)
  where
    same : (ps : List Stamped) → newest_writer ps ≡ None → drop 1 ps ≡ ps
    same [] none = refl
    same (p ∷ ps) none = cc

-- where there is no row no touch is taken away
pub none_untouched : (s : VersionedRows) (key : Key) (by : TxnName) → IsSegment s → has_row s key ≡ false → ChangesKey s s key (untouched by (versions_at s key))
none_untouched s key by sound none = subst (λ vs. ChangesKey s s key (untouched by vs)) (sym same) (subst (ChangesKey s s key) same (unchanged s key sound))
  where
    same : versions_at s key ≡ nothing
    same = by_row (find key_cmp key s.rows) none
      where
        by_row : (o : Option StampedVersions) → is_some o ≡ false → or_nothing o ≡ nothing
        by_row None e = refl
        by_row (Some vs) e = cc

-- the newest record is the newest pair's
pub newest_is : (base : Option ℕ) (us : List UndoRecord) → newest_of us ≡ newest_writer (pairs_of base us)
newest_is base [] = refl
newest_is base (u ∷ us) = refl
