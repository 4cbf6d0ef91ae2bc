-- Rows at rest that settle, and where none is changed.
use Rattle.std.proofs.Common.{◌≡◌, ℕ, zero, suc, ◌<◌, ◌≤◌, List, [], ◌∷◌, ◌++◌, refl, sym, ◌∙◌, ap, subst, arith, Option, Some, None}
use Rattle.std.specs.Prelude.{Bool, true, false, ◌||◌, slice_get, IfSome}
use Rattle.std.specs.List.{AllByRecursion, list_any}
use Rattle.graph_model.specs.declared.journal.TxnName.{TxnName}
use Rattle.graph_model.proofs.PlaceLemmas.{some_eq}
use Rattle.store_model.specs.Stamped.{Stamped}
use Rattle.row_table.specs.UndoChain.Chains.{ChainMap, list_at}
use Rattle.row_table.specs.UndoChain.Records.{UndoRecord, pairs_of}
use Rattle.row_table.specs.UndoChain.Records as undo_records
use Rattle.row_table.specs.HeadMapDeclared.heads.Heads.{Heads}
use Rattle.row_table.specs.HeadMap.Heads.{place_behind, settled_heads}
use Rattle.row_table.specs.Parts.{touches_of}
use Rattle.version_segment.specs.Resting.{RestingRow, outlasts, CanSettle}
use Rattle.version_segment.specs.RestingParts.{resting_at, resting_places, PlaceSettles}

module _ (by : TxnName) (horizon : ℕ) where
  -- the pairs of undo records outlast where these do
  pairs_settle : (v : Option ℕ) (us : List UndoRecord) → list_any (undo_records.outlasts by horizon) us ≡ list_any (outlasts by horizon) (pairs_of v us)
  pairs_settle v [] = refl
  pairs_settle v (u ∷ us) = ap (λ t. undo_records.outlasts by horizon u || t) (pairs_settle u.older us)

  -- a test of two lists in one
  any_both : (test : Stamped → Bool) (xs : List Stamped) (x : Stamped) → list_any test xs ≡ false → test x ≡ false → list_any test (xs ++ x ∷ []) ≡ false
  any_both test [] x none last = rw last
  any_both test (y ∷ ys) x none last = go (test y) (list_any test ys) none (λ rest. any_both test ys x rest last)
    where
      go : (t s : Bool) → (t || s) ≡ false → (s ≡ false → list_any test (ys ++ x ∷ []) ≡ false) → (t || list_any test (ys ++ x ∷ [])) ≡ false
      go true s none then = cc
      go false s none then = then none

  -- so do touches
  touches_settle : (ts : List UndoRecord) → list_any (undo_records.outlasts by horizon) ts ≡ false → list_any (outlasts by horizon) (touches_of ts) ≡ false
  touches_settle [] none = refl
  touches_settle (u ∷ us) none = go (undo_records.outlasts by horizon u) (list_any (undo_records.outlasts by horizon) us) refl refl none (touches_settle us)
    where
      go : (t s : Bool) → undo_records.outlasts by horizon u ≡ t → list_any (undo_records.outlasts by horizon) us ≡ s → (t || s) ≡ false
          → (list_any (undo_records.outlasts by horizon) us ≡ false → list_any (outlasts by horizon) (touches_of us) ≡ false)
          → list_any (outlasts by horizon) (touches_of (u ∷ us)) ≡ false
      go true s e f none rest = cc
      go false true e f none rest = cc
      go false false e f none rest = any_both (outlasts by horizon) (touches_of us) (record { by = u.by; stamp = u.stamp; value = None }) (rest f) e

  module _ (c : ChainMap) where
    -- rows settle where those at their places do
    pub places_settle : (count : ℕ) (f : ℕ → Heads) → ((p : ℕ) → p < count → PlaceSettles by horizon c (f p)) → CanSettle by horizon (resting_places c count f)
    places_settle zero f at = tt
    places_settle (suc n) f at =
        let first = at 0 (omega arith) in (
          record {
            value = first.value;
            pairs = sym (pairs_settle None (list_at c (f 0).undos)) ∙ first.undos;
            touches = touches_settle (list_at c (f 0).touches) first.touches;
          },
          places_settle n (λ p. f (suc p)) (λ p lt. at (suc p) (omega (arith, lt))),
        )

    -- a row without records settles
    pub none_settles : (h : Heads) → h ≡ settled_heads → PlaceSettles by horizon c h
    none_settles h none = subst (PlaceSettles by horizon c) (sym none) (record { value = refl; undos = refl; touches = refl })

-- rows have values where those at their places do
pub places_valued : (c : ChainMap) (count : ℕ) (f : ℕ → Heads) → ((p : ℕ) → p < count → (f p).has_value ≡ true)
    → AllByRecursion (λ h. h.has_value ≡ true) (resting_places c count f)
places_valued c zero f at = tt
places_valued c (suc n) f at = (at 0 (omega arith), places_valued c n (λ p. f (suc p)) (λ p lt. at (suc p) (omega (arith, lt))))

module _ (c : ChainMap) where
  -- what is left of a row is what is left at its place
  at_place : (count : ℕ) (f : ℕ → Heads) (p : ℕ) (h : RestingRow) → slice_get (resting_places c count f) p ≡ Some h → resting_at c (f p) ≡ h
  at_place zero f p h e = cc
  at_place (suc n) f zero h e = some_eq (resting_at c (f 0)) h e
  at_place (suc n) f (suc p) h e = at_place n (λ q. f (suc q)) p h e

  -- one without records has no pairs
  pub no_pairs : (count : ℕ) (f : ℕ → Heads) (p : ℕ) (h : RestingRow) → f p ≡ settled_heads → slice_get (resting_places c count f) p ≡ Some h → h.versions.pairs ≡ []
  no_pairs count f p h none e = ap (λ (r : RestingRow). r.versions.pairs) (sym (at_place count f p h e)) ∙ ap (λ (x : Heads). (resting_at c x).versions.pairs) none

-- a place that is behind another one
pub behind_place : (last : Option ℕ) (p : ℕ) → IfSome last (λ n. n < p) → place_behind last ≤ p
behind_place None p lt = omega arith
behind_place (Some n) p lt = omega (arith, lt)
