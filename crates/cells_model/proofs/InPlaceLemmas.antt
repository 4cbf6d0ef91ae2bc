-- Held cells get other contents between the same fence keys: the index stays sound, and each key has what its
-- cell has.
use Rattle.std.proofs.Common.{◌≡◌, ◌⊎◌, inl, inr, ℕ, ◌+◌, ◌-◌, ◌*◌, ◌<◌, ◌≤◌, List, [], ◌∷◌, length, refl, sym, ◌∙◌, ap, subst, cond, arith, Option, Some}
use Rattle.std.specs.Prelude.{Bool, true, false, ◌==◌}
use Rattle.std.specs.declared.alloc.Global.{Global}
use Rattle.std.proofs.lemmas.Bool.{true≢false}
use Rattle.graph_model.specs.declared.row.Key.{Key}
use Rattle.graph_model.specs.Rows.{is_between}
use Rattle.store_model.specs.Stamped.{StampedVersions}
use Rattle.seat_views.specs.Keeping.{kept_at, revised}
use Rattle.seat_views.proofs.NumberLemmas.{eq_of, same_number, revised-some}
use Rattle.leaf_store.specs.VersionSegment.Rows.{VersionedRows, versions_at}
use Rattle.leaf_index.specs.Index.{Index}
use Rattle.leaf_store.specs.Leaves.{versions_of, weight}
use Rattle.cells_model.specs.Cells.{CellState}
use Rattle.cells_model.specs.Indexed.{store_of, covers, IsIndexed}
use Rattle.cells_model.specs.InPlace.{segment_of, AreInPlace, growth, ChangesInPlace, CellsChangeInPlace}
use Rattle.cells_model.proofs.IndexedLemmas.{cell_tells, cells_show, cell_changes}

module _ (heap : Global) (index : Index) (cell : ℕ
    → CellState) (is : IsIndexed heap index (segment_of cell)) where
  -- the contents of the one cell that has changed, said twice
  segment_put : (es : List (ℕ × CellState)) (k : ℕ) (c : CellState)
      → revised (segment_of (revised cell es)) ((k, c.segment) ∷ []) ≡ segment_of (revised cell ((k, c) ∷ es))
  segment_put es k c = λ t m. by_test m (m == k) t
    where
      by_test : (m : ℕ) (b : Bool) → cond b c.segment
          (revised cell es m).segment ≡ (cond b c (revised cell es m)).segment
      by_test m true = refl
      by_test m false = refl

  -- all of it but what a changed cell shows, one cell after the other
  record Stays (news : List (ℕ × CellState)) : Type 0 where
    indexed : IsIndexed heap index (segment_of (revised cell news))
    low : (k : ℕ) → (revised cell news k).segment.low ≡ (cell k).segment.low
    high : (k : ℕ) → (revised cell news k).segment.high ≡ (cell k).segment.high
    others : (q : Key) → ((k : ℕ) (d : CellState) → kept_at news k ≡ Some d → covers (cell k).segment q ≡ false)
        → versions_of (store_of heap index (segment_of (revised cell news))) q ≡ versions_of
        (store_of heap index (segment_of cell)) q
    weight_is : weight (store_of heap index (segment_of (revised cell news))) ≤ weight
        (store_of heap index (segment_of cell)) + growth cell news
    inside : (k : ℕ) (d : CellState) → kept_at news k ≡ Some d → k < 8 * index.leaves

  stays : (news : List (ℕ × CellState)) → AreInPlace index.leaves cell news → Stays news
  stays [] all = record {
    indexed = is;
    low = λ k. refl;
    high = λ k. refl;
    others = λ q none. refl;
    weight_is = omega arith;
    inside = λ k d e. cc;
  }
  stays (e ∷ es) all =
      let old = stays es all.1 in
      let one = all.0 in
      let k = e.0 in
      let seg : ℕ → VersionedRows = segment_of (revised cell es) in
      let fences : (q : Key) → covers (seg k) q ≡ covers (cell k).segment q =
      (λ q i. is_between (old.low k i) (old.high k i) q) in
      let here : covers (seg k) one.key ≡ true = fences one.key ∙ one.covered in
      let at = cell_tells heap index seg old.indexed k one.key one.inside here in
      let step = cell_changes heap index seg old.indexed k one.key one.inside here e.1.segment one.sound
      (one.low ∙ sym (old.low k)) (one.high ∙ sym (old.high k)) in
      let now = segment_put es k e.1 in
      let w : weight (store_of heap index (revised seg ((k, e.1.segment) ∷ []))) ≤ weight
      (store_of heap index seg) + (length e.1.segment.rows - length (seg k).rows)
      = subst (λ (c : VersionedRows). weight (store_of heap index (revised seg ((k, e.1.segment) ∷ [])))
      ≤ weight (store_of heap index seg) + (length e.1.segment.rows - length c.rows)) at
      step.changes.weight in
      let u = old.weight_is in
      record {
        indexed = subst (IsIndexed heap index) now step.indexed;
        low = λ m. fence (λ (a : VersionedRows). a.low) m (m == k) refl (λ same. one.low
            ∙ ap (λ n. (cell n).segment.low) (sym same)) (old.low m);
        high = λ m. fence (λ (a : VersionedRows). a.high) m (m == k) refl (λ same. one.high
            ∙ ap (λ n. (cell n).segment.high) (sym same)) (old.high m);
        others = λ q none.
            let beside : covers (cell k).segment q ≡ false = none k e.1 (first (k == k) (same_number k)) in
            ap (λ s. versions_of (store_of heap index s) q) (sym now)
            ∙ ap (λ (c : VersionedRows). versions_at c q)
            (step.changes.others q ((λ i. is_between (at i).low (at i).high q) ∙ fences q ∙ beside))
            ∙ old.others q (λ m d has. rest q m (m == k) refl beside d has (none m));
        weight_is = subst (λ s. weight (store_of heap index s) ≤ weight (store_of heap index (segment_of cell))
            + growth cell (e ∷ es)) now (omega (arith, u, w));
        inside = λ m d. within m (m == k) refl d (old.inside m d);
      }
    where
      fence : (F : VersionedRows → Key) (m : ℕ) (b : Bool) → (m == e.0) ≡ b
          → (m ≡ e.0 → F e.1.segment ≡ F (cell m).segment)
          → F (revised cell es m).segment ≡ F (cell m).segment
          → F (cond b e.1 (revised cell es m)).segment ≡ F (cell m).segment
      fence F m true is here there = here (eq_of m e.0 is)
      fence F m false is here there = there

      first : (b : Bool) → b ≡ true → cond b (Some e.1) (kept_at es e.0) ≡ Some e.1
      first true is = refl
      first false is = cc

      rest : (q : Key) (m : ℕ) (b : Bool) → (m == e.0) ≡ b → covers (cell e.0).segment q ≡ false
          → (d : CellState) → kept_at es m ≡ Some d
          → ((d' : CellState) → cond b (Some e.1) (kept_at es m) ≡ Some d' → covers (cell m).segment q ≡ false)
          → covers (cell m).segment q ≡ false
      rest q m true same beside d has none = none e.1 refl
      rest q m false same beside d has none = none d has

      within : (m : ℕ) (b : Bool) → (m == e.0) ≡ b → (d : CellState)
          → (kept_at es m ≡ Some d → m < 8 * index.leaves) → cond b (Some e.1) (kept_at es m) ≡ Some d
          → m < 8 * index.leaves
      within m true same d old has = subst (λ n. n < 8 * index.leaves) (sym (eq_of m e.0 same)) all.0.inside
      within m false same d old has = old has

  in_place : (news : List (ℕ × CellState)) → AreInPlace index.leaves cell news
      → ChangesInPlace heap index cell news
  in_place news all =
      let s = stays news all in
      record {
        indexed = s.indexed;
        low = s.low;
        high = s.high;
        here = λ k d q kept held.
            let held' : covers (segment_of (revised cell news) k) q ≡ true =
            (λ i. is_between (s.low k i) (s.high k i) q) ∙ held in
            cells_show heap index (segment_of (revised cell news)) s.indexed k q (s.inside k d kept) held'
            ∙ ap (λ (c : CellState). versions_at c.segment q) (revised-some cell news k d kept);
        others = s.others;
        weight_is = s.weight_is;
      }

pub cells_change_in_place : CellsChangeInPlace
cells_change_in_place = in_place

-- ---- each row has changed as planned

module _ (cell : ℕ → CellState) where
  -- one of the changed cells covers the key
  pub record IsCoveredIn (news : List (ℕ × CellState)) (q : Key) : Type 0 where
    pub number : ℕ
    pub new : CellState
    pub kept : kept_at news number ≡ Some new
    pub covered : covers (cell number).segment q ≡ true

  -- or none does
  abbrev pub NoneCovers : List (ℕ × CellState) → Key → Type 0
  NoneCovers news q = (k : ℕ) (d : CellState) → kept_at news k ≡ Some d → covers (cell k).segment q ≡ false

  pub covered_or_not : (news : List (ℕ × CellState)) (q : Key) → IsCoveredIn news q ⊎ NoneCovers news q
  covered_or_not [] q = inr (λ k d e. cc)
  covered_or_not (e ∷ es) q = by_test (covers (cell e.0).segment q) refl (covered_or_not es q)
    where
      by_test : (b : Bool) → covers (cell e.0).segment q ≡ b → IsCoveredIn es q ⊎ NoneCovers es q
          → IsCoveredIn (e ∷ es) q ⊎ NoneCovers (e ∷ es) q
      by_test true is rest = inl (record {
        number = e.0;
        new = e.1;
        kept = ap (λ b. cond b (Some e.1) (kept_at es e.0)) (same_number e.0);
        covered = is;
      })
      by_test false is (inl r) = inl (record {
        number = r.number;
        new = r.new;
        kept = other r.number (r.number == e.0) refl r.covered r.kept;
        covered = r.covered;
      })
        where
          other : (m : ℕ) (b : Bool) → (m == e.0) ≡ b → covers (cell m).segment q ≡ true
              → {x : Option CellState} → x ≡ Some r.new → cond b (Some e.1) x ≡ Some r.new
          other m true same has at = absurd (true≢false (sym has
              ∙ ap (λ n. covers (cell n).segment q) (eq_of m e.0 same) ∙ is))
          other m false same has at = at
      by_test false is (inr none) = inr (λ k d at. one k (k == e.0) refl d at)
        where
          one : (k : ℕ) (b : Bool) → (k == e.0) ≡ b → (d : CellState)
              → cond b (Some e.1) (kept_at es k) ≡ Some d → covers (cell k).segment q ≡ false
          one k true same d at = ap (λ n. covers (cell n).segment q) (eq_of k e.0 same) ∙ is
          one k false same d at = none k d at

-- The row of a key that a changed cell covers has changed so, and each other is as it was.
pub rows_changed : (heap : Global) (index : Index) (cell : ℕ → CellState)
    → IsIndexed heap index (segment_of cell)
    → (news : List (ℕ × CellState)) → AreInPlace index.leaves cell news
    → (R : Key → StampedVersions → StampedVersions → Type 0)
    → ((k : ℕ) (d : CellState) (q : Key) → kept_at news k ≡ Some d
    → (k < 8 * index.leaves) × (covers (cell k).segment q ≡ true
    → R q (versions_at (cell k).segment q) (versions_at d.segment q)))
    → (q : Key)
    → R q (versions_of (store_of heap index (segment_of cell)) q)
    (versions_of (store_of heap index (segment_of (revised cell news))) q)
    ⊎ ((versions_of (store_of heap index (segment_of (revised cell news))) q ≡ versions_of
    (store_of heap index (segment_of cell)) q) × NoneCovers cell news q)
rows_changed heap index cell is news all R planned q =
    let new = in_place heap index cell is news all in
    elim (covered_or_not cell news q) as (λ _. R q (versions_of (store_of heap index (segment_of cell)) q)
    (versions_of (store_of heap index (segment_of (revised cell news))) q)
    ⊎ ((versions_of (store_of heap index (segment_of (revised cell news))) q ≡ versions_of
    (store_of heap index (segment_of cell)) q) × NoneCovers cell news q)) [
      | inr none ↦ inr (new.others q none, none)
      | inl r ↦
          let p = planned r.number r.new q r.kept in
          let was = sym (cells_show heap index (segment_of cell) is r.number q p.0 r.covered) in
          let now = sym (new.here r.number r.new q r.kept r.covered) in
          inl (subst (λ (x : StampedVersions × StampedVersions). R q x.0 x.1)
          (λ i. (was i, now i)) (p.1 r.covered))
    ]
