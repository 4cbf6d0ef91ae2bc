-- Values that may be stored, in the rows of a segment and in what a change makes of them.
use Rattle.std.proofs.Common.{◌≡◌, ℕ, zero, suc, List, [], ◌∷◌, drop, map, refl, sym, ◌∙◌, ap, subst, cond, arith, Some}
use Rattle.std.specs.Prelude.{Bool, true, false, ◌&&◌, slice_get}
use Rattle.std.specs.List.{AllByRecursion}
use Rattle.std.specs.Ordering.{eq_by_cmp}
use Rattle.std.specs.FinMap.Entries.{find}
use Rattle.graph_model.specs.declared.row.Key.{Key}
use Rattle.graph_model.specs.declared.journal.TxnName.{TxnName}
use Rattle.graph_model.specs.declared.write.Kind.{Kind}
use Rattle.graph_model.specs.declared.write.Write.{Write}
use Rattle.graph_model.specs.declared.write.Write.TheVariants.{AddVertex, DropVertex, AddEdge, SetEdge, DropEdge}
use Rattle.graph_model.specs.Conflict.{same_name}
use Rattle.graph_model.specs.Effects.{touches_at, value_left, writes_at}
use Rattle.graph_model.specs.Refused.{IsWithinLimits}
use Rattle.graph_model.specs.Rows.{is_between, key_cmp}
use Rattle.seat_views.proofs.NumberLemmas.{some_is}
use Rattle.store_model.specs.Stamped.{Stamped, StampedVersions, lacks_stamp, stamp, stamp_one}
use Rattle.row_writes.specs.VersionSegment.Keyed.{entries_by}
use Rattle.row_writes.proofs.VersionSegment.KeyedLemmas.{find_there}
use Rattle.row_writes.specs.VersionSegment.Rows.{VersionedRows, IsSegment, nothing, or_nothing, touched, undone, untouched, versions_at, written}
use Rattle.store_rule.specs.StoreRelation.Rows.{row_after, row_before}
use Rattle.store_rule.specs.CellsModel.Indexed.{covers}
use Rattle.store_rule.specs.CellsModel.Words.{HasSmallValues, HasSmallWeights, IsSmall}

-- ---- one row

pub none_small : HasSmallValues nothing
none_small = (tt, tt)

undone_small : (vs : StampedVersions) → HasSmallValues vs → HasSmallValues (undone vs)
undone_small vs small = (rest vs.pairs small.0, small.1)
  where
    rest : (ps : List Stamped) → AllByRecursion (λ p. IsSmall p.value) ps
        → AllByRecursion (λ p. IsSmall p.value) (drop 1 ps)
    rest [] h = tt
    rest (p ∷ ps) h = h.1

pub stamp_small : (by : TxnName) (c : ℕ) (vs : StampedVersions) → HasSmallValues vs → HasSmallValues (stamp by c vs)
stamp_small by c vs small = (all vs.pairs small.0, small.1)
  where
    all : (ps : List Stamped) → AllByRecursion (λ p. IsSmall p.value) ps
        → AllByRecursion (λ p. IsSmall p.value) (map (stamp_one by c) ps)
    all [] h = tt
    all (p ∷ ps) h = (one (same_name p.by by && lacks_stamp p), all ps h.1)
      where
        one : (t : Bool) → IsSmall (cond t (record { by = p.by; stamp = Some c; value = p.value }) p).value
        one true = h.0
        one false = h.0

-- what a write leaves may be stored
left_small : (w : Write) → IsWithinLimits w → IsSmall (value_left w)
left_small (AddVertex v) within = omega arith
left_small (DropVertex v) within = tt
left_small (AddEdge u v weight) within = within.2
left_small (SetEdge u v weight) within = within.2
left_small (DropEdge u v) within = tt

module _ (kind : Kind) (by : TxnName) (w : Write) (q : Key) (vs : StampedVersions) where
  pub after_small : IsWithinLimits w → HasSmallValues vs → HasSmallValues (row_after kind by w q vs)
  after_small within small = both (touches_at w q) (put (writes_at kind w q))
    where
      new : StampedVersions
      new = cond (writes_at kind w q) (written by (value_left w) vs) vs

      put : (s : Bool) → HasSmallValues (cond s (written by (value_left w) vs) vs)
      put true = ((left_small w within, small.0), small.1)
      put false = small

      both : (t : Bool) → HasSmallValues new → HasSmallValues (cond t (touched by new) new)
      both true h = h
      both false h = h

  pub before_small : HasSmallValues vs → HasSmallValues (row_before kind by w q vs)
  before_small small = both (touches_at w q) (less (writes_at kind w q))
    where
      old : StampedVersions
      old = cond (writes_at kind w q) (undone vs) vs

      less : (s : Bool) → HasSmallValues (cond s (undone vs) vs)
      less true = undone_small vs small
      less false = small

      both : (t : Bool) → HasSmallValues old → HasSmallValues (cond t (untouched by old) old)
      both true h = h
      both false h = h

-- ---- all rows

-- of each key
pub small_at : (s : VersionedRows) → HasSmallWeights s → (q : Key) → HasSmallValues (versions_at s q)
small_at s small q = go s.rows small
  where
    go : (rows : List (Key × StampedVersions)) → AllByRecursion (λ row. HasSmallValues row.1) rows
        → HasSmallValues (or_nothing (find key_cmp q rows))
    go [] h = none_small
    go (row ∷ rows) h = one (eq_by_cmp key_cmp q row.0) (go rows h.1)
      where
        one : (t : Bool) → HasSmallValues (or_nothing (find key_cmp q rows))
            → HasSmallValues (or_nothing (cond t (Some row.1) (find key_cmp q rows)))
        one true rest = h.0
        one false rest = rest

all_by_place : {X : Type 0} (P : X → Type 0) (xs : List X) → ((i : ℕ) (x : X) → slice_get xs i ≡ Some x → P x)
    → AllByRecursion P xs
all_by_place P [] each = tt
all_by_place P (x ∷ xs) each = (each 0 x refl, all_by_place P xs (λ i y e. each (suc i) y e))

pub all_get : {X : Type 0} (P : X → Type 0) (xs : List X) (i : ℕ) (x : X) → AllByRecursion P xs
    → slice_get xs i ≡ Some x → P x
all_get P [] i x h e = cc
all_get P (y ∷ ys) zero x h e = subst P (some_is y x e) h.0
all_get P (y ∷ ys) (suc i) x h e = all_get P ys i x h.1 e

same_entries : (rows : List (Key × StampedVersions)) → entries_by (λ row. row.0) (λ row. row.1) rows ≡ rows
same_entries [] = refl
same_entries (r ∷ rs) = λ i. r ∷ same_entries rs i

-- and back: each row has what its key has
pub small_rows : (s : VersionedRows) → IsSegment s
    → ((q : Key) → covers s q ≡ true → HasSmallValues (versions_at s q)) → HasSmallWeights s
small_rows s sound small = all_by_place (λ (row : Key × StampedVersions). HasSmallValues row.1) s.rows (λ place row e.
    subst HasSmallValues (found place row e)
    (small row.0 (all_get (λ (r : Key × StampedVersions). is_between s.low s.high r.0 ≡ true) s.rows place row
    sound.within e)))
  where
    found : (place : ℕ) (row : Key × StampedVersions) → slice_get s.rows place ≡ Some row → versions_at s row.0 ≡ row.1
    found place row e = ap or_nothing (ap (find key_cmp row.0) (sym (same_entries s.rows))
        ∙ find_there (λ (r : Key × StampedVersions). r.0)
        (λ (r : Key × StampedVersions). r.1) s.rows place row sound.rising e)
