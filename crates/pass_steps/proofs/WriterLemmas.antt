-- The writers of records without a stamp in held rows: whoever may be asked for has such a record, and the writers of a
-- row of which the pass has learnt may be asked for.
use Rattle.std.proofs.Common.{◌≡◌, inl, inr, ℕ, zero, suc, ◌<◌, List, [], ◌∷◌, refl, sym, ◌∙◌, ap, cond, arith}
use Rattle.std.specs.Prelude.{Bool, true, false, ◌&&◌, not, nat_lt, is_some, Option, Some, None, slice_get}
use Rattle.std.specs.List.{list_any}
use Rattle.std.specs.Ordering.{eq_by_cmp}
use Rattle.std.specs.FinMap.Entries.{find}
use Rattle.std.proofs.lemmas.Bool.{or_left, or_right}
use Rattle.std.proofs.lemmas.Bool.Decides.{nat_tests}
use mathlib.Core.Logic.{dite}
use native.Mathlib.Decide.{ℕ_discrete}
use Rattle.graph_model.specs.declared.row.Key.{Key}
use Rattle.graph_model.specs.declared.journal.TxnName.{TxnName}
use Rattle.graph_model.specs.Rows.{key_cmp}
use Rattle.graph_model.proofs.PlaceLemmas.{some_eq}
use Rattle.graph_model.proofs.TestLemmas.{either_of, both_of, name_self, name_eq}
use Rattle.txn_manager.specs.declared.config.Config.{Config}
use Rattle.store_model.specs.Stamped.{Stamped, StampedVersions}
use Rattle.store_rule.specs.VersionSegment.Checks.{AreNamedIn, IsNamed}
use Rattle.store_rule.specs.VersionSegment.Rows.{or_nothing, versions_at}
use Rattle.store_rule.proofs.VersionSegment.KeyedLemmas.{tied_same}
use Rattle.seat_views.specs.Keeping.{kept_at}
use Rattle.store_rule.specs.StoreRelation.Rows.{HasRecord}
use Rattle.store_rule.specs.CellsModel.Cells.{CellState}
use Rattle.store_rule.specs.CellsModel.Indexed.{covers}
use Rattle.store_rule.specs.RuleModel.NoteSteps.{HasRecordIn, HasRow}
use Rattle.store_rule.specs.RuleModel.Sight.{Sight, cells_of}
use Rattle.pass_steps.specs.Asking.{HasWriter, any_below, bare_in_cell, bare_in_row, is_bare, is_writer}
use Rattle.pass_steps.proofs.NoteLemmas.{any_at}

-- ---- whoever may be asked for has a record

below_at : (test : ℕ → Bool) (n : ℕ) → any_below test n ≡ true → (k : ℕ) × (k < n) × (test k ≡ true)
below_at test zero h = cc
below_at test (suc n) h = elim (either_of (test n) (any_below test n) h)
    as (λ _. (k : ℕ) × (k < suc n) × (test k ≡ true)) [
      | inl e ↦ (n, omega arith, e)
      | inr e ↦ let r = below_at test n e in let lt : r.0 < n = r.1 in (r.0, omega (arith, lt), r.2)
    ]

no_stamp : (o : Option ℕ) → not (is_some o) ≡ true → o ≡ None
no_stamp None h = refl
no_stamp (Some c) h = cc

pub writer_found : (z : Config) (v : Sight) (n : TxnName) → is_writer z v n ≡ true → HasWriter z v n
writer_found z v n h =
    let both = both_of (nat_lt n.job z.passes) _ h in
    let inside : n.job < z.passes = grind (arith, nat_tests) in
    let r = below_at (λ k. bare_in_cell n (kept_at v.cells k)) (cells_of z) both.1 in
    in_cell r.0 r.1 inside (kept_at v.cells r.0) refl r.2
  where
    one : (k : ℕ) (c : CellState) (q : Key) → HasRow z v k c q → n.job < z.passes → (x : Stamped)
        → HasRecord (versions_at c.segment q) x → is_bare n x ≡ true → HasWriter z v n
    one k c q row inside x there h =
        let p = both_of (not (is_some x.stamp)) _ h in
        record {
          number = k;
          cell = c;
          key = q;
          stamped = x;
          record_in = record { row = row; there = there };
          bare = no_stamp x.stamp p.0;
          by = name_eq x.by n p.1;
          inside = inside;
        }

    in_row : (k : ℕ) (c : CellState) (q : Key) → HasRow z v k c q → n.job < z.passes
        → bare_in_row n (versions_at c.segment q) ≡ true → HasWriter z v n
    in_row k c q row inside f =
        elim (either_of (list_any (is_bare n) (versions_at c.segment q).pairs)
        (list_any (is_bare n) (versions_at c.segment q).touches) f) as (λ _. HasWriter z v n) [
          | inl e ↦
              let r = any_at (is_bare n) (versions_at c.segment q).pairs e in
              one k c q row inside r.1 (inl (r.0, r.2)) r.3
          | inr e ↦
              let r = any_at (is_bare n) (versions_at c.segment q).touches e in
              one k c q row inside r.1 (inr (r.0, r.2)) r.3
        ]

    in_cell : (k : ℕ) → k < cells_of z → n.job < z.passes → (o : Option CellState) → kept_at v.cells k ≡ o
        → bare_in_cell n o ≡ true → HasWriter z v n
    in_cell k lt inside None has f = cc
    in_cell k lt inside (Some c) has f =
        let r = any_at (λ (row : Key × StampedVersions). covers c.segment row.0
        && bare_in_row n (versions_at c.segment row.0)) c.segment.rows f in
        let p = both_of (covers c.segment r.1.0) _ r.3 in
        in_row k c r.1.0 (record { cell = has; inside = lt; covered = p.0 }) inside p.1

-- ---- and the writers of a row may be asked for

any_there : {X : Type 0} (test : X → Bool) (xs : List X) (i : ℕ) (x : X) → slice_get xs i ≡ Some x
    → test x ≡ true → list_any test xs ≡ true
any_there test [] i x at h = cc
any_there test (y ∷ xs) zero x at h = or_left _ _ (ap test (some_eq y x at) ∙ h)
any_there test (y ∷ xs) (suc i) x at h = or_right (test y) _ (any_there test xs i x at h)

below_there : (test : ℕ → Bool) (n k : ℕ) → k < n → test k ≡ true → any_below test n ≡ true
below_there test zero k lt h = absurd (omega (arith, lt))
below_there test (suc n) k lt h = dite (ℕ_discrete k n)
    (λ same. or_left _ _ (ap test (sym same) ∙ h))
    (λ other. or_right (test n) _ (below_there test n k (omega (arith, lt, other)) h))

-- a key with versions has a row
row_there : (q : Key) (rows : List (Key × StampedVersions)) (vs : StampedVersions) → find key_cmp q rows ≡ Some vs
    → (i : ℕ) × (row : Key × StampedVersions) × (slice_get rows i ≡ Some row) × (row.0 ≡ q)
row_there q [] vs e = cc
row_there q (row ∷ rows) vs e = go (eq_by_cmp key_cmp q row.0) refl e (row_there q rows vs)
  where
    go : (t : Bool) → eq_by_cmp key_cmp q row.0 ≡ t → cond t (Some row.1) (find key_cmp q rows) ≡ Some vs
        → (find key_cmp q rows ≡ Some vs
        → (i : ℕ) × (r : Key × StampedVersions) × (slice_get rows i ≡ Some r) × (r.0 ≡ q))
        → (i : ℕ) × (r : Key × StampedVersions) × (slice_get (row ∷ rows) i ≡ Some r) × (r.0 ≡ q)
    go true is h rest = (0, row, refl, sym (tied_same q row.0 is))
    go false is h rest = let r = rest h in (suc r.0, r.1, r.2, r.3)

pub writers_named : (z : Config) (v : Sight)
    → ((k : ℕ) (c : CellState) (q : Key) (x : Stamped) → HasRecordIn z v k c q x → x.stamp ≡ None
    → x.by.job < z.passes)
    → (k : ℕ) (c : CellState) (q : Key) → HasRow z v k c q → IsNamed (is_writer z v) (versions_at c.segment q)
writers_named z v known k c q row = record {
  pairs = each (versions_at c.segment q).pairs (λ i x at. (
    inl (i, at),
    λ n same. or_left _ _
        (any_there (is_bare n) (versions_at c.segment q).pairs i x at same),
  ));
  touches = each (versions_at c.segment q).touches (λ i x at. (
    inr (i, at),
    λ n same.
        or_right (list_any (is_bare n) (versions_at c.segment q).pairs) _
        (any_there (is_bare n) (versions_at c.segment q).touches i x at same),
  ));
}
  where
    bare_of : (x : Stamped) → x.stamp ≡ None → is_bare x.by x ≡ true
    bare_of x e i = not (is_some (e i)) && name_self x.by i

    in_rows : (o : Option StampedVersions) → find key_cmp q c.segment.rows ≡ o → (n : TxnName)
        → bare_in_row n (or_nothing o) ≡ true → bare_in_cell n (Some c) ≡ true
    in_rows None e n h = cc
    in_rows (Some vs) e n h =
        let r = row_there q c.segment.rows vs e in
        any_there (λ (one : Key × StampedVersions). covers c.segment one.0
        && bare_in_row n (versions_at c.segment one.0)) c.segment.rows r.0 r.1 r.2
        (ap (λ p. covers c.segment p && bare_in_row n (versions_at c.segment p)) r.3
        ∙ (λ i. row.covered i && (ap (λ w. bare_in_row n (or_nothing w)) e ∙ h) i))

    named : (x : Stamped) → HasRecord (versions_at c.segment q) x
        × ((n : TxnName) → is_bare n x ≡ true → bare_in_row n (versions_at c.segment q) ≡ true)
        → x.stamp ≡ None → is_writer z v x.by ≡ true
    named x found bare =
        let lt : x.by.job < z.passes = known k c q x (record { row = row; there = found.0 }) bare in
        let inside : nat_lt x.by.job z.passes ≡ true = grind (arith, nat_tests) in
        (λ i. inside i && below_there (λ l. bare_in_cell x.by (kept_at v.cells l)) (cells_of z) k row.inside
        (ap (bare_in_cell x.by) row.cell ∙ in_rows (find key_cmp q c.segment.rows) refl x.by
        (found.1 x.by (bare_of x bare))) i)

    each : (xs : List Stamped) → ((i : ℕ) (x : Stamped) → slice_get xs i ≡ Some x
        → HasRecord (versions_at c.segment q) x
        × ((n : TxnName) → is_bare n x ≡ true → bare_in_row n (versions_at c.segment q) ≡ true))
        → AreNamedIn (is_writer z v) xs
    each [] f = tt
    each (x ∷ xs) f = (named x (f 0 x refl), each xs (λ i y at. f (suc i) y at))
