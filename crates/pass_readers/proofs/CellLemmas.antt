-- Cells that a reader has in hand: what it knows of them, and whoever is named in their rows.
use Rattle.std.proofs.Common.{◌≡◌, inl, inr, ℕ, zero, suc, List, [], ◌∷◌, refl, sym, ◌∙◌, ap, subst, cond, Option, Some}
use Rattle.std.specs.Prelude.{Bool, true, false, ◌||◌, slice_get}
use Rattle.std.specs.List.{AllByRecursion}
use Rattle.std.specs.FinMap.Entries.{find}
use Rattle.seat_views.specs.Keeping.{kept_at}
use Rattle.graph_model.specs.declared.journal.TxnName.{TxnName}
use Rattle.graph_model.specs.declared.row.Key.{Key}
use Rattle.graph_model.specs.Rows.{first_key, is_between, key_cmp}
use Rattle.store_model.specs.Stamped.{StampedVersions}
use Rattle.txn_manager.specs.declared.config.Config.{Config}
use Rattle.pass_cells.proofs.VersionSegment.KeyedLemmas.{find_there}
use Rattle.pass_cells.specs.CellsModel.Indexed.{covers}
use Rattle.pass_cells.specs.Holding.{AreKnown, IsKnown}
use Rattle.pass_cells.specs.RowWrites.Checks.{AreNamedHeld}
use Rattle.pass_cells.specs.RuleModel.Sight.{Sight}
use Rattle.pass_cells.specs.Taken.{AreRising, cell_at, has_cell, held_rows}
use Rattle.pass_cells.specs.VersionSegment.Checks.{AreNamedRows, IsNamed}
use Rattle.pass_cells.specs.VersionSegment.Keyed.{entries_by}
use Rattle.pass_cells.specs.VersionSegment.Rows.{IsSegment, VersionedRows, or_nothing, versions_at}
use Rattle.pass_cells.specs.declared.taken.TakenCell.{TakenCell}
use Rattle.pass_cells.proofs.CellLemmas.{IsAmong}
use Rattle.pass_cells.proofs.StepLemmas.{unique_cell}

-- ---- what is known

-- what is known of cells stays where the view has the same
pub known_same : (z : Config) (v w : Sight) → w.cells ≡ v.cells → (ts : List TakenCell) → AreKnown z v ts → AreKnown z w ts
known_same z v w same [] known = tt
known_same z v w same (t ∷ ts) known = (one known.0, known_same z v w same ts known.1)
  where
    one : IsKnown z v t → IsKnown z w t
    one h = record {
      state = h.state;
      has = (λ i. kept_at (same i) t.held.cell) ∙ h.has;
      inside = h.inside;
      unpacked = h.unpacked;
      wide = h.wide;
      same = h.same;
      sound = h.sound;
      small = h.small;
      untouched = h.untouched;
      count = h.count;
    }

-- ---- whoever is asked for in a cell

all_by_place : {X : Type 0} (P : X → Type 0) (xs : List X) → ((i : ℕ) (x : X) → slice_get xs i ≡ Some x → P x)
    → AllByRecursion P xs
all_by_place P [] each = tt
all_by_place P (x ∷ xs) each = (each 0 x refl, all_by_place P xs (λ i y e. each (suc i) y e))

all_get : {X : Type 0} (P : X → Type 0) (xs : List X) (i : ℕ) (x : X) → AllByRecursion P xs → slice_get xs i ≡ Some x
    → P x
all_get P [] i x h e = cc
all_get {X} P (y ∷ ys) zero x h e = subst P (same y x e) h.0
  where
    same : (a b : X) → ◌≡◌ {A = Option X} (Some a) (Some b) → a ≡ b
    same a b e = cc
all_get P (y ∷ ys) (suc i) x h e = all_get P ys i x h.1 e

same_entries : (rs : List (Key × StampedVersions)) → entries_by (λ row. row.0) (λ row. row.1) rs ≡ rs
same_entries [] = refl
same_entries (r ∷ rs) = λ i. r ∷ same_entries rs i

-- each row of a segment has what its key has
each_row : (P : StampedVersions → Type 0) (s : VersionedRows) → IsSegment s
    → ((q : Key) → covers s q ≡ true → P (versions_at s q)) → AllByRecursion (λ row. P row.1) s.rows
each_row P s sound each = all_by_place (λ (row : Key × StampedVersions). P row.1) s.rows (λ place row e.
    subst P (found place row e) (each row.0
    (all_get (λ (r : Key × StampedVersions). is_between s.low s.high r.0 ≡ true) s.rows place row sound.within e)))
  where
    found : (place : ℕ) (row : Key × StampedVersions) → slice_get s.rows place ≡ Some row → versions_at s row.0 ≡ row.1
    found place row e = ap or_nothing (ap (find key_cmp row.0) (sym (same_entries s.rows))
        ∙ find_there (λ (r : Key × StampedVersions). r.0) (λ (r : Key × StampedVersions). r.1) s.rows place row
        sound.rising e)

-- the key's cell is one of those in hand
record CellOf (P : TakenCell → Type 0) (ts : List TakenCell) (q : Key) : Type 0 where
  cell : TakenCell
  among : IsAmong cell ts
  has : P cell
  is : cell_at ts q ≡ cell.held.value

cell_of : (P : TakenCell → Type 0) (ts : List TakenCell) (q : Key) → AllByRecursion P ts → has_cell ts q ≡ true
    → CellOf P ts q
cell_of P [] q all holds = cc
cell_of P (t ∷ ts) q all holds = go (covers t.held.value q) refl (cell_of P ts q all.1)
  where
    go : (b : Bool) → covers t.held.value q ≡ b → (has_cell ts q ≡ true → CellOf P ts q) → CellOf P (t ∷ ts) q
    go true e rest = record {
      cell = t;
      among = inl refl;
      has = all.0;
      is = ap (λ b. cond b t.held.value (cell_at ts q)) e;
    }
    go false e rest =
        let r = rest (ap (λ b. b || has_cell ts q) (sym e) ∙ holds) in
        record {
          cell = r.cell;
          among = inr r.among;
          has = r.has;
          is = ap (λ b. cond b t.held.value (cell_at ts q)) e ∙ r.is;
        }

-- NAMED: in all rows of a key's cell
pub cell_named : (z : Config) (v : Sight) (names : TxnName → Bool) (ts : List TakenCell) (q : Key) → AreKnown z v ts
    → AreRising ts → AreNamedHeld names (held_rows ts) → has_cell ts q ≡ true
    → AreNamedRows names (cell_at ts q).rows
cell_named z v names ts q known rising named holds =
    subst (λ (s : VersionedRows). AreNamedRows names s.rows) (sym of.is)
    (each_row (IsNamed names) of.cell.held.value of.has.sound (λ k there.
    let here = unique_cell first_key ts rising of.cell of.among k there in
    subst (λ (s : VersionedRows). IsNamed names (versions_at s k)) here.0 (named k here.1)))
  where
    of : CellOf (IsKnown z v) ts q
    of = cell_of (IsKnown z v) ts q known holds
