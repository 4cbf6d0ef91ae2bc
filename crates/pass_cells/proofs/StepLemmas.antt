-- What a pass knows of the cells in hand before and after a step that changes their rows.
use Rattle.std.proofs.Common.{◌≡◌, ℕ, suc, ◌<◌, ◌≤◌, List, [], ◌∷◌, length, refl, sym, ◌∙◌, ap, subst, cond, arith, inl, inr, Some, None}
use Rattle.std.specs.Prelude.{Bool, true, false, not, ◌==◌, ◌||◌, ◌&&◌, unwrap_or}
use Rattle.graph_model.specs.declared.row.Key.{Key}
use Rattle.graph_model.specs.Rows.{is_below}
use Rattle.graph_model.proofs.KeyLemmas.{below_self, between_of, between_parts, upto_chain, below_flip}
use Rattle.graph_model.proofs.TestLemmas.{eq_of, never, self_eq}
use Rattle.txn_manager.specs.declared.config.Config.{Config}
use Rattle.seat_views.specs.Keeping.{kept_at, revised}
use Rattle.seat_views.proofs.NumberLemmas.{none_or_some, revised-none, some_is}
use Rattle.store_model.specs.Stamped.{StampedVersions}
use Rattle.row_writes.specs.VersionSegment.Rows.{VersionedRows, IsSameSegment, IsSegment}
use Rattle.store_rule.specs.CellsModel.Cells.{CellState}
use Rattle.store_rule.specs.CellsModel.Indexed.{covers}
use Rattle.store_rule.specs.CellsModel.InPlace.{growth}
use Rattle.store_rule.specs.CellsModel.Words.{Spells}
use Rattle.store_rule.specs.RuleModel.EndSteps.{new_state}
use Rattle.store_rule.specs.RuleModel.RowSteps.{AreChanges, IsChange}
use Rattle.store_rule.specs.RuleModel.Sight.{Agrees, HasCell, Sight, cells_of}
use Rattle.pass_cells.specs.declared.taken.TakenCell.{TakenCell}
use Rattle.pass_cells.specs.Changes.{news_of, state_of}
use Rattle.pass_cells.specs.Holding.{AreKnown, IsKnown, numbers_of}
use Rattle.pass_cells.specs.Taken.{AreApart, AreFrom, KeepsCell, KeepCells, cell_at, has_cell, is_taken, rows_come}
use Rattle.pass_cells.proofs.CellLemmas.{IsAmong, covers_same}

-- ---- segments that are the same but for room

pub same_sound : (s t : VersionedRows) → IsSameSegment s t → IsSegment s → IsSegment t
same_sound s t same sound =
    let moved : IsSegment (record s { low = t.low; high = t.high; rows = t.rows }) =
    subst (λ (x : Key × Key × List (Key × StampedVersions)). IsSegment
    (record s { low = x.0; high = x.1; rows = x.2 }))
    (λ i. (sym same.low i, sym same.high i, sym same.rows i)) sound in
    record {
      fences = moved.fences;
      rising = moved.rising;
      within = moved.within;
      something = moved.something;
      small =
          moved.small;
    }

pub same_spells : (block : List ℕ) (s t : VersionedRows) → IsSameSegment s t → Spells block s → Spells block t
same_spells block s t same spells =
    let moved : Spells block (record s { low = t.low; high = t.high; rows = t.rows }) =
    subst (λ (x : Key × Key × List (Key × StampedVersions)). Spells block
    (record s { low = x.0; high = x.1; rows = x.2 }))
    (λ i. (sym same.low i, sym same.high i, sym same.rows i)) spells in
    record { wide = moved.wide; words = moved.words; sound = same_sound s t same spells.sound; small = moved.small }

-- ---- what the view has

pub state_is : (v : Sight) (k : ℕ) (c : CellState) → HasCell v k c → state_of v k ≡ c
state_is v k c has = ap (λ o. unwrap_or o (new_state k)) has

-- ---- keys between fence keys

-- a cell begins at a key that it covers
pub covers_low : (c : VersionedRows) → is_below c.low c.high ≡ true → covers c c.low ≡ true
covers_low c some = between_of c.low c.high c.low (below_self c.low) some

-- what these cells cover isn't below where they begin
pub none_below : (low : Key) (ts : List TakenCell) (q : Key) → AreFrom low ts → has_cell ts q ≡ true
    → is_below q low ≡ false
none_below low [] q from has = cc
none_below low (t ∷ ts) q from has = go (covers t.held.value q) refl (none_below t.held.value.high ts q from.2)
  where
    go : (b : Bool) → covers t.held.value q ≡ b → (has_cell ts q ≡ true → is_below q t.held.value.high ≡ false)
        → is_below q low ≡ false
    go true e rest = upto_chain low t.held.value.low q from.0 (between_parts t.held.value.low t.held.value.high q e).0
    go false e rest =
        upto_chain low t.held.value.high q
        (upto_chain low t.held.value.low t.held.value.high from.0
        (below_flip t.held.value.low t.held.value.high from.1))
        (rest (ap (λ b. b || has_cell ts q) (sym e) ∙ has))

-- so what they cover no cell before them does
pub not_before : (low : Key) (t : TakenCell) (ts : List TakenCell) (q : Key) → AreFrom low (t ∷ ts)
    → has_cell ts q ≡ true → covers t.held.value q ≡ false
not_before low t ts q from has =
    last (not (is_below q t.held.value.low)) (is_below q t.held.value.high)
    (none_below t.held.value.high ts q from.2 has)
  where
    last : (a b : Bool) → b ≡ false → (a && b) ≡ false
    last true b e = e
    last false b e = refl

-- and each that covers a key is the key's
pub unique_cell : (low : Key) (ts : List TakenCell) → AreFrom low ts → (t : TakenCell) → IsAmong t ts → (q : Key)
    → covers t.held.value q ≡ true
    → (cell_at ts q ≡ t.held.value) × (has_cell ts q ≡ true)
unique_cell low [] from t among q e = absurd among
unique_cell low (x ∷ xs) from t (inl same) q e =
    let here : covers x.held.value q ≡ true = ap (λ (y : TakenCell). covers y.held.value q) same ∙ e in (
      ap (λ b. cond b x.held.value (cell_at xs q)) here
          ∙ ap (λ (y : TakenCell). y.held.value) same,
      ap (λ b. b || has_cell xs q) here,
    )
unique_cell low (x ∷ xs) from t (inr among) q e =
    let rest = unique_cell x.held.value.high xs from.2 t among q e in
    let other = not_before low x xs q from rest.1 in
    (ap (λ b. cond b x.held.value (cell_at xs q)) other ∙ rest.0, ap (λ b. b || has_cell xs q) other ∙ rest.1)

-- ---- cells that are kept

pub from_kept : (low : Key) (ts us : List TakenCell) → KeepCells ts us → AreFrom low ts → AreFrom low us
from_kept low [] [] kept from = tt
from_kept low (t ∷ ts) (u ∷ us) kept from = (
  ap (λ k. is_below k low) kept.0.low ∙ from.0,
  (λ i. is_below (kept.0.low i) (kept.0.high i)) ∙ from.1,
  from_kept u.held.value.high ts us kept.1 (subst (λ k. AreFrom k ts) (sym kept.0.high) from.2),
)
from_kept low [] (u ∷ us) kept from = absurd kept
from_kept low (t ∷ ts) [] kept from = absurd kept

pub taken_kept : (k : ℕ) (ts us : List TakenCell) → KeepCells ts us → is_taken k us ≡ is_taken k ts
taken_kept k [] [] kept = refl
taken_kept k (t ∷ ts) (u ∷ us) kept = λ i. (k == kept.0.cell i) || taken_kept k ts us kept.1 i
taken_kept k [] (u ∷ us) kept = absurd kept
taken_kept k (t ∷ ts) [] kept = absurd kept

pub apart_kept : (ts us : List TakenCell) → KeepCells ts us → AreApart ts → AreApart us
apart_kept [] [] kept apart = tt
apart_kept (t ∷ ts) (u ∷ us) kept apart = (
  (λ i. is_taken (kept.0.cell i) us) ∙ taken_kept t.held.cell ts us kept.1 ∙ apart.0,
  apart_kept ts us kept.1 apart.1,
)
apart_kept [] (u ∷ us) kept apart = absurd kept
apart_kept (t ∷ ts) [] kept apart = absurd kept

pub numbers_kept : (ts us : List TakenCell) → KeepCells ts us → numbers_of us ≡ numbers_of ts
numbers_kept [] [] kept = refl
numbers_kept (t ∷ ts) (u ∷ us) kept = λ i. kept.0.cell i ∷ numbers_kept ts us kept.1 i
numbers_kept [] (u ∷ us) kept = absurd kept
numbers_kept (t ∷ ts) [] kept = absurd kept

pub length_kept : (ts us : List TakenCell) → KeepCells ts us → length us ≡ length ts
length_kept [] [] kept = refl
length_kept (t ∷ ts) (u ∷ us) kept = ap suc (length_kept ts us kept.1)
length_kept [] (u ∷ us) kept = absurd kept
length_kept (t ∷ ts) [] kept = absurd kept

pub covers_kept : (ts us : List TakenCell) → KeepCells ts us → (q : Key) → has_cell us q ≡ has_cell ts q
covers_kept [] [] kept q = refl
covers_kept (t ∷ ts) (u ∷ us) kept q =
    λ i. covers_same u.held.value t.held.value kept.0.low kept.0.high q i || covers_kept ts us kept.1 q i
covers_kept [] (u ∷ us) kept q = absurd kept
covers_kept (t ∷ ts) [] kept q = absurd kept

-- ---- news of cells in hand

module _ (z : Config) (v : Sight) where
  -- what the view has of a cell that is kept
  kept_state : (t u : TakenCell) → KeepsCell t u → (known : IsKnown z v t) → HasCell v u.held.cell known.state
  kept_state t u kept known = subst (λ k. HasCell v k known.state) (sym kept.cell) known.has

  -- they are changes
  change_of : (low : Key) (t u : TakenCell) (ts : List TakenCell) → IsKnown z v t → KeepsCell t u → AreFrom low (t ∷ ts)
      → IsChange z v u.held.cell (record (state_of v u.held.cell) { segment = u.held.value })
  change_of low t u ts known kept from =
      let has = kept_state t u kept known in
      let is = state_is v u.held.cell known.state has in
      record {
        held = record {
          cell = known.state;
          has = has;
          inside = subst (λ k. k < cells_of z) (sym kept.cell) known.inside;
          loose = known.unpacked;
          block = ap (λ (c : CellState). c.block) is;
          unpacked = ap (λ (c : CellState). c.unpacked) is;
          changed = ap (λ (c : CellState). c.changed) is;
        };
        low = kept.low ∙ known.same.low;
        high = kept.high ∙ known.same.high;
        sound = kept.sound known.sound;
        key = t.held.value.low;
        covered = sym (covers_same t.held.value known.state.segment known.same.low known.same.high t.held.value.low)
            ∙ covers_low t.held.value from.1;
      }

  pub all_changes : (low : Key) (ts us : List TakenCell) → AreKnown z v ts → KeepCells ts us → AreFrom low ts
      → AreChanges z v (news_of v us)
  all_changes low [] [] known kept from = tt
  all_changes low (t ∷ ts) (u ∷ us) known kept from =
      (change_of low t u ts known.0 kept.0 from, all_changes t.held.value.high ts us known.1 kept.1 from.2)
  all_changes low [] (u ∷ us) known kept from = absurd kept
  all_changes low (t ∷ ts) [] known kept from = absurd kept

  -- a cell of which there are news is in hand
  pub news_taken : (k : ℕ) (us : List TakenCell) (d : CellState) → kept_at (news_of v us) k ≡ Some d
      → is_taken k us ≡ true
  news_taken k [] d e = cc
  news_taken k (u ∷ us) d e = go (k == u.held.cell) refl (news_taken k us d)
    where
      go : (b : Bool) → (k == u.held.cell) ≡ b → (kept_at (news_of v us) k ≡ Some d → is_taken k us ≡ true)
          → ((k == u.held.cell) || is_taken k us) ≡ true
      go true f rest = ap (λ b. b || is_taken k us) f
      go false f rest = ap (λ b. b || is_taken k us) f
          ∙ rest (ap (λ b. cond b (Some (record (state_of v u.held.cell) { segment = u.held.value }))
          (kept_at (news_of v us) k)) (sym f) ∙ e)

  pub none_taken : (k : ℕ) (us : List TakenCell) → is_taken k us ≡ false → kept_at (news_of v us) k ≡ None
  none_taken k us none = elim (none_or_some (kept_at (news_of v us) k)) as (λ _. kept_at (news_of v us) k ≡ None) [
    | inl e ↦ e
    | inr h ↦ never (is_taken k us) (news_taken k us h.0 h.1) none
  ]

  -- which cell it is, before and after the change
  pub record IsPair (ts us : List TakenCell) (k : ℕ) (c d : CellState) : Type 0 where
    pub before : TakenCell
    pub after : TakenCell
    pub is_before : IsAmong before ts
    pub is_after : IsAmong after us
    pub kept : KeepsCell before after
    pub same : IsSameSegment c.segment before.held.value
    pub segment : d.segment ≡ after.held.value

  pub pair_of : (ts us : List TakenCell) → AreKnown z v ts → KeepCells ts us → (k : ℕ) (c d : CellState)
      → HasCell v k c → kept_at (news_of v us) k ≡ Some d → IsPair ts us k c d
  pair_of [] [] known kept k c d has e = cc
  pair_of (t ∷ ts) (u ∷ us) known kept k c d has e = go (k == u.held.cell) refl (pair_of ts us known.1 kept.1 k c d has)
    where
      entry : (b : Bool) → (k == u.held.cell) ≡ b
          → cond b (Some (record (state_of v u.held.cell) { segment = u.held.value }))
          (kept_at (news_of v us) k) ≡ Some d
      entry b f = ap (λ s. cond s (Some (record (state_of v u.held.cell) { segment = u.held.value }))
          (kept_at (news_of v us) k)) (sym f) ∙ e

      go : (b : Bool) → (k == u.held.cell) ≡ b → (kept_at (news_of v us) k ≡ Some d → IsPair ts us k c d)
          → IsPair (t ∷ ts) (u ∷ us) k c d
      go true f ih =
          let is : (record (state_of v u.held.cell) { segment = u.held.value }) ≡ d =
          some_is (record (state_of v u.held.cell) { segment = u.held.value }) d (entry true f) in
          let number : k ≡ t.held.cell = eq_of k u.held.cell f ∙ kept.0.cell in
          let state : c ≡ known.0.state =
          some_is c known.0.state (sym has ∙ ap (λ n. kept_at v.cells n) number ∙ known.0.has) in
          record {
            before = t;
            after = u;
            is_before = inl refl;
            is_after = inl refl;
            kept = kept.0;
            same = subst (λ (x : CellState). IsSameSegment x.segment t.held.value) (sym state) known.0.same;
            segment = ap (λ (x : CellState). x.segment) (sym is);
          }
      go false f ih =
          let rest = ih (entry false f) in
          record {
            before = rest.before;
            after = rest.after;
            is_before = inr rest.is_before;
            is_after = inr rest.is_after;
            kept = rest.kept;
            same = rest.same;
            segment = rest.segment;
          }
  pair_of [] (u ∷ us) known kept k c d has e = absurd kept
  pair_of (t ∷ ts) [] known kept k c d has e = absurd kept

  -- the news of a key's cell
  pub record IsNewsOf (us : List TakenCell) (q : Key) : Type 0 where
    pub number : ℕ
    pub cell : CellState
    pub there : kept_at (news_of v us) number ≡ Some cell
    pub covered : covers cell.segment q ≡ true

  pub news_at : (us : List TakenCell) → AreApart us → (q : Key) → has_cell us q ≡ true → IsNewsOf us q
  news_at [] apart q has = cc
  news_at (u ∷ us) apart q has = go (covers u.held.value q) refl (news_at us apart.1 q)
    where
      go : (b : Bool) → covers u.held.value q ≡ b → (has_cell us q ≡ true → IsNewsOf us q) → IsNewsOf (u ∷ us) q
      go true e ih = record {
        number = u.held.cell;
        cell = record (state_of v u.held.cell) { segment = u.held.value };
        there = ap (λ b. cond b (Some (record (state_of v u.held.cell) { segment = u.held.value }))
            (kept_at (news_of v us) u.held.cell)) (self_eq u.held.cell);
        covered = e;
      }
      go false e ih =
          let rest = ih (ap (λ b. b || has_cell us q) (sym e) ∙ has) in
          record {
            number = rest.number;
            cell = rest.cell;
            there = ap (λ b. cond b (Some (record (state_of v u.held.cell) { segment = u.held.value }))
                (kept_at (news_of v us) rest.number))
                (other rest.number (news_taken rest.number us rest.cell rest.there) (rest.number == u.held.cell) refl)
                ∙ rest.there;
            covered = rest.covered;
          }
        where
          other : (k : ℕ) → is_taken k us ≡ true → (b : Bool) → (k == u.held.cell) ≡ b → (k == u.held.cell) ≡ false
          other k among false f = f
          other k among true f = never (is_taken k us) among ((λ i. is_taken (eq_of k u.held.cell f i) us) ∙ apart.0)

  -- rows come as they are counted
  pub grows : (cell : ℕ → CellState) → Agrees v cell → (ts us : List TakenCell) → AreKnown z v ts → KeepCells ts us
      → AreApart us
      → growth cell (news_of v us) ≤ rows_come us
  grows cell agrees [] [] known kept apart = omega arith
  grows cell agrees (t ∷ ts) (u ∷ us) known kept apart =
      let rest = grows cell agrees ts us known.1 kept.1 apart.1 in
      let has = kept_state t u kept.0 known.0 in
      let before : length (revised cell (news_of v us) u.held.cell).segment.rows ≡ u.rows =
      ap (λ (c : CellState). length c.segment.rows)
      (revised-none cell (news_of v us) u.held.cell (none_taken u.held.cell us apart.0)
      ∙ agrees u.held.cell known.0.state has)
      ∙ ap length (sym known.0.same.rows) ∙ sym known.0.count ∙ sym kept.0.rows in
      omega (arith, rest, before)
  grows cell agrees [] (u ∷ us) known kept apart = absurd kept
  grows cell agrees (t ∷ ts) [] known kept apart = absurd kept
