-- The cells of keys in a list of cells in hand, one of which is changed.
use Rattle.std.proofs.Common.{◌≡◌, ◌⊎◌, ℕ, zero, suc, ◌+◌, ◌≤◌, List, [], ◌∷◌, length, refl, sym, ◌∙◌, ap, subst, cond, arith, inl, inr, Some}
use Rattle.std.specs.Prelude.{Bool, true, false, not, ◌||◌, slice_get, slice_set}
use Rattle.graph_model.specs.declared.row.Key.{Key}
use Rattle.graph_model.specs.Effects.{same_key}
use Rattle.graph_model.specs.Rows.{is_between}
use Rattle.graph_model.proofs.TestLemmas.{never}
use Rattle.seat_views.proofs.NumberLemmas.{some_is}
use Rattle.row_writes.specs.VersionSegment.Rows.{VersionedRows}
use Rattle.row_writes.proofs.KeyLemmas.{key_eq}
use Rattle.store_rule.specs.CellsModel.Indexed.{covers}
use Rattle.pass_cells.specs.declared.taken.TakenCell.{TakenCell}
use Rattle.pass_cells.specs.Taken.{IsPlace, KeepsCell, KeepCells, cell_at, has_cell, keep_all, keeps_one, rows_come}

-- ---- the cell of a key

-- it is one of these
abbrev pub IsAmong : TakenCell → List TakenCell → Type 0
IsAmong t [] = ⊥
IsAmong t (x ∷ xs) = (x ≡ t) ⊎ IsAmong t xs

-- the first cell that covers the key is another
abbrev pub replaced : Key → TakenCell → List TakenCell → List TakenCell
replaced q u [] = []
replaced q u (t ∷ ts) = cond (covers t.held.value q) (u ∷ ts) (t ∷ replaced q u ts)

-- the cell at the place of a key
pub at_place : (ts : List TakenCell) (q : Key) (place : ℕ) (t : TakenCell) → IsPlace ts q place
    → slice_get ts place ≡ Some t
    → (t.held.value ≡ cell_at ts q) × (covers t.held.value q ≡ true)
at_place [] q place t is e = absurd is
at_place (x ∷ xs) q zero t is e =
    let same : x ≡ t = some_is x t e in (
      ap (λ (y : TakenCell). y.held.value) (sym same) ∙ ap (λ b. cond b x.held.value (cell_at xs q)) (sym is),
      ap
          (λ (y : TakenCell). covers y.held.value q) (sym same) ∙ is,
    )
at_place (x ∷ xs) q (suc place) t is e =
    let rest = at_place xs q place t is.1 e in
    (rest.0 ∙ ap (λ b. cond b x.held.value (cell_at xs q)) (sym is.0), rest.1)

pub among_place : (ts : List TakenCell) (place : ℕ) (t : TakenCell) → slice_get ts place ≡ Some t → IsAmong t ts
among_place [] place t e = cc
among_place (x ∷ xs) zero t e = inl (some_is x t e)
among_place (x ∷ xs) (suc place) t e = inr (among_place xs place t e)

pub set_at : (ts : List TakenCell) (q : Key) (place : ℕ) (u : TakenCell) → IsPlace ts q place
    → slice_set ts place u ≡ replaced q u ts
set_at [] q place u is = absurd is
set_at (x ∷ xs) q zero u is = ap (λ b. cond b (u ∷ xs) (x ∷ replaced q u xs)) (sym is)
set_at (x ∷ xs) q (suc place) u is =
    ap (λ l. x ∷ l) (set_at xs q place u is.1) ∙ ap (λ b. cond b (u ∷ xs) (x ∷ replaced q u xs)) (sym is.0)

-- a cell that is in hand covers its key
pub covers_own : (ts : List TakenCell) (q : Key) → has_cell ts q ≡ true → covers (cell_at ts q) q ≡ true
covers_own [] q has = cc
covers_own (t ∷ ts) q has = go (covers t.held.value q) refl (covers_own ts q)
  where
    go : (b : Bool) → covers t.held.value q ≡ b → (has_cell ts q ≡ true → covers (cell_at ts q) q ≡ true)
        → covers (cond (covers t.held.value q) t.held.value (cell_at ts q)) q ≡ true
    go true e rest = ap (λ b. covers (cond b t.held.value (cell_at ts q)) q) e ∙ e
    go false e rest = ap (λ b. covers (cond b t.held.value (cell_at ts q)) q) e
        ∙ rest (ap (λ b. b || has_cell ts q) (sym e) ∙ has)

-- one that isn't covers no key
pub covers_none : (ts : List TakenCell) (q : Key) → has_cell ts q ≡ false → cell_at ts q ≡ cell_at [] q
covers_none [] q none = refl
covers_none (t ∷ ts) q none = go (covers t.held.value q) refl (covers_none ts q)
  where
    go : (b : Bool) → covers t.held.value q ≡ b → (has_cell ts q ≡ false → cell_at ts q ≡ cell_at [] q)
        → cond (covers t.held.value q) t.held.value (cell_at ts q) ≡ cell_at [] q
    go true e rest = never (covers t.held.value q || has_cell ts q) (ap (λ b. b || has_cell ts q) e) none
    go false e rest = ap (λ b. cond b t.held.value (cell_at ts q)) e
        ∙ rest (ap (λ b. b || has_cell ts q) (sym e) ∙ none)

-- the same fence keys cover the same keys
pub covers_same : (a b : VersionedRows) → a.low ≡ b.low → a.high ≡ b.high → (q : Key) → covers a q ≡ covers b q
covers_same a b low high q = λ i. is_between (low i) (high i) q

-- keys of which a cell covers one alone are two
apart_keys : (c : VersionedRows) (x y : Key) (b : Bool) → covers c x ≡ b → covers c y ≡ not b → same_key y x ≡ false
apart_keys c x y b f g = go (same_key y x) refl
  where
    no : (b : Bool) → b ≡ not b → ⊥
    no true e = cc
    no false e = cc

    go : (t : Bool) → same_key y x ≡ t → t ≡ false
    go false e = refl
    go true e = absurd (no b (sym f ∙ sym (ap (covers c) (key_eq y x e)) ∙ g))

module _ (key : Key) (u : TakenCell) where
  -- between the same fence keys
  abbrev pub Fits : List TakenCell → Type 0
  Fits ts = (u.held.value.low ≡ (cell_at ts key).low) × (u.held.value.high ≡ (cell_at ts key).high)

  -- a key's cell is the changed one, or is as it was, and then the key is another
  pub either_cell : (ts : List TakenCell) → has_cell ts key ≡ true → Fits ts → (q : Key)
      → ((cell_at ts q ≡ cell_at ts key) × (cell_at (replaced key u ts) q ≡ u.held.value))
      ⊎ ((cell_at (replaced key u ts) q ≡ cell_at ts q) × (same_key q key ≡ false))
  either_cell [] has fits q = cc
  either_cell (t ∷ ts) has fits q =
      go (covers t.held.value key) (covers t.held.value q) refl refl (λ h f. either_cell ts h f q)
    where
      new : (a : Bool) → covers t.held.value key ≡ a
          → cell_at (replaced key u (t ∷ ts)) q ≡ cell_at (cond a (u ∷ ts) (t ∷ replaced key u ts)) q
      new a f = ap (λ b. cell_at (cond b (u ∷ ts) (t ∷ replaced key u ts)) q) f

      old : (k : Key) (b : Bool) → covers t.held.value k ≡ b → cell_at (t ∷ ts) k ≡ cond b t.held.value (cell_at ts k)
      old k b g = ap (λ c. cond c t.held.value (cell_at ts k)) g

      -- the changed cell covers what the old one does
      as_old : covers t.held.value key ≡ true → covers u.held.value q ≡ covers t.held.value q
      as_old f = covers_same u.held.value (cell_at (t ∷ ts) key) fits.0 fits.1 q ∙ ap (λ c. covers c q) (old key true f)

      first : (b : Bool) → covers u.held.value q ≡ b → cell_at (u ∷ ts) q ≡ cond b u.held.value (cell_at ts q)
      first b g = ap (λ c. cond c u.held.value (cell_at ts q)) g

      kept : (b : Bool) → covers t.held.value q ≡ b
          → cell_at (t ∷ replaced key u ts) q ≡ cond b t.held.value (cell_at (replaced key u ts) q)
      kept b g = ap (λ c. cond c t.held.value (cell_at (replaced key u ts) q)) g

      go : (a b : Bool) → covers t.held.value key ≡ a → covers t.held.value q ≡ b
          → (has_cell ts key ≡ true → Fits ts
          → ((cell_at ts q ≡ cell_at ts key) × (cell_at (replaced key u ts) q ≡ u.held.value))
          ⊎ ((cell_at (replaced key u ts) q ≡ cell_at ts q) × (same_key q key ≡ false)))
          → ((cell_at (t ∷ ts) q ≡ cell_at (t ∷ ts) key) × (cell_at (replaced key u (t ∷ ts)) q ≡ u.held.value))
          ⊎ ((cell_at (replaced key u (t ∷ ts)) q ≡ cell_at (t ∷ ts) q) × (same_key q key ≡ false))
      go true true f g rest = inl (old q true g ∙ sym (old key true f), new true f ∙ first true (as_old f ∙ g))
      go true false f g rest =
          inr (new true f ∙ first false (as_old f ∙ g) ∙ sym (old q false g), apart_keys t.held.value key q true f g)
      go false true f g rest =
          inr (new false f ∙ kept true g ∙ sym (old q true g), apart_keys t.held.value key q false f g)
      go false false f g rest =
          elim (rest (ap (λ b. b || has_cell ts key) (sym f) ∙ has) (
            fits.0 ∙ ap (λ (c : VersionedRows). c.low) (old key false f),
            fits.1
                ∙ ap (λ (c : VersionedRows). c.high) (old key false f),
          ))
          as (λ _. ((cell_at (t ∷ ts) q ≡ cell_at (t ∷ ts) key) × (cell_at (replaced key u (t ∷ ts)) q ≡ u.held.value))
          ⊎ ((cell_at (replaced key u (t ∷ ts)) q ≡ cell_at (t ∷ ts) q) × (same_key q key ≡ false))) [
            | inl h ↦ inl (old q false g ∙ h.0 ∙ sym (old key false f), new false f ∙ kept false g ∙ h.1)
            | inr h ↦ inr (new false f ∙ kept false g ∙ h.0 ∙ sym (old q false g), h.1)
          ]

  -- the same keys are covered
  pub has_same : (ts : List TakenCell) → has_cell ts key ≡ true → Fits ts → (q : Key)
      → has_cell (replaced key u ts) q ≡ has_cell ts q
  has_same [] has fits q = refl
  has_same (t ∷ ts) has fits q = go (covers t.held.value key) refl (λ h f. has_same ts h f q)
    where
      own : covers t.held.value key ≡ true → covers u.held.value q ≡ covers t.held.value q
      own f = covers_same u.held.value (cell_at (t ∷ ts) key) fits.0 fits.1 q
          ∙ ap (λ c. covers (cond c t.held.value (cell_at ts key)) q) f

      rest : covers t.held.value key ≡ false → Fits ts
      rest f = (
        fits.0 ∙ ap (λ c. (cond c t.held.value (cell_at ts key)).low) f,
        fits.1
            ∙ ap (λ c. (cond c t.held.value (cell_at ts key)).high) f,
      )

      go : (a : Bool) → covers t.held.value key ≡ a
          → (has_cell ts key ≡ true → Fits ts → has_cell (replaced key u ts) q ≡ has_cell ts q)
          → has_cell (cond (covers t.held.value key) (u ∷ ts) (t ∷ replaced key u ts)) q ≡ has_cell (t ∷ ts) q
      go true f ih = ap (λ c. has_cell (cond c (u ∷ ts) (t ∷ replaced key u ts)) q) f
          ∙ ap (λ c. c || has_cell ts q) (own f)
      go false f ih = ap (λ c. has_cell (cond c (u ∷ ts) (t ∷ replaced key u ts)) q) f
          ∙ ap (λ c. covers t.held.value q || c) (ih (ap (λ b. b || has_cell ts key) (sym f) ∙ has) (rest f))

  -- no more rows come than in the changed cell
  pub more_come : (ts : List TakenCell) (t : TakenCell) (place n : ℕ) → IsPlace ts key place
      → slice_get ts place ≡ Some t → u.rows ≡ t.rows
      → length u.held.value.rows ≤ length t.held.value.rows + n → rows_come (replaced key u ts) ≤ rows_come ts + n
  more_come [] t place n is e known few = absurd is
  more_come (x ∷ xs) t zero n is e known few =
      let same : x ≡ t = some_is x t e in
      let rows : length x.held.value.rows ≡ length t.held.value.rows =
      ap (λ (y : TakenCell). length y.held.value.rows) same in
      let count : x.rows ≡ t.rows = ap (λ (y : TakenCell). y.rows) same in
      subst (λ c. rows_come (cond c (u ∷ xs) (x ∷ replaced key u xs)) ≤ rows_come (x ∷ xs) + n) (sym is)
      (omega (arith, rows, count, known, few))
  more_come (x ∷ xs) t (suc place) n is e known few =
      let rest = more_come xs t place n is.1 e known few in
      subst (λ c. rows_come (cond c (u ∷ xs) (x ∷ replaced key u xs)) ≤ rows_come (x ∷ xs) + n) (sym is.0)
      (omega (arith, rest))

  -- all others are kept
  pub kept_others : (ts : List TakenCell) (t : TakenCell) (place : ℕ) → IsPlace ts key place
      → slice_get ts place ≡ Some t → KeepsCell t u → KeepCells ts (replaced key u ts)
  kept_others [] t place is e kept = absurd is
  kept_others (x ∷ xs) t zero is e kept =
      subst (λ c. KeepCells (x ∷ xs) (cond c (u ∷ xs) (x ∷ replaced key u xs))) (sym is)
      (subst (λ (y : TakenCell). KeepsCell y u) (sym (some_is x t e)) kept, keep_all xs)
  kept_others (x ∷ xs) t (suc place) is e kept =
      subst (λ c. KeepCells (x ∷ xs) (cond c (u ∷ xs) (x ∷ replaced key u xs))) (sym is.0)
      (keeps_one x, kept_others xs t place is.1 e kept)
