-- Scans of a view, cell after cell.
use Rattle.std.proofs.Common.{◌≡◌, inl, inr, ℕ, zero, suc, ◌<◌, List, [], ◌∷◌, length, refl, sym, ◌∙◌, ap, subst, cond, arith, Option, Some, None}
use Rattle.std.specs.Prelude.{Bool, true, false, ◌||◌, slice_get}
use Rattle.std.specs.List.{AllByRecursion}
use Rattle.std.specs.FinMap.Entries.{find}
use Rattle.graph_model.specs.declared.journal.Begun.{Begun}
use Rattle.graph_model.specs.declared.journal.TxnName.{TxnName}
use Rattle.graph_model.specs.declared.row.Cursor.{Cursor}
use Rattle.graph_model.specs.declared.row.Key.{Key}
use Rattle.graph_model.specs.declared.row.Row.{Row}
use Rattle.graph_model.specs.declared.write.Kind.{Kind}
use Rattle.graph_model.specs.Graph.{Graph}
use Rattle.graph_model.specs.Rows.{end_key, first_key, is_below, is_between, key_cmp, rows, value_at}
use Rattle.graph_model.proofs.KeyLemmas.{below_self, between_parts, upto_chain}
use Rattle.graph_model.proofs.RowLemmas.{rows_of_values}
use Rattle.store_model.specs.Stamped.{StampedVersions}
use Rattle.txn_manager.specs.declared.config.Config.{Config}
use Rattle.pass_prunes.specs.VersionSegment.Checks.{AreNamedRows, IsNamed}
use Rattle.pass_prunes.specs.VersionSegment.Keyed.{entries_by}
use Rattle.pass_prunes.proofs.VersionSegment.KeyedLemmas.{find_there}
use Rattle.pass_prunes.specs.VersionSegment.Rows.{IsSegment, VersionedRows, or_nothing, versions_at}
use Rattle.edge_scan.specs.Steps.{IsUnderWay, end_of}
use Rattle.pass_prunes.specs.RowWrites.Checks.{AreNamedHeld}
use Rattle.pass_prunes.specs.StoreRelation.Passes.{PassState, name_at}
use Rattle.pass_prunes.specs.CellsModel.Indexed.{covers}
use Rattle.pass_prunes.specs.RuleModel.Sight.{PinState, Sight}
use Rattle.pass_prunes.specs.StoreRuleDeclared.store.Pass.{Pass}
use Rattle.pass_prunes.specs.PassCellsDeclared.taken.TakenCell.{TakenCell}
use Rattle.pass_prunes.specs.PassCells.Holding.{AreKnown, IsKnown}
use Rattle.pass_prunes.specs.PassCells.Reading.{lesser}
use Rattle.pass_prunes.specs.PassCells.Taken.{AreRising, cell_at, has_cell, held_rows}
use Rattle.pass_prunes.proofs.PassCells.CellLemmas.{IsAmong}
use Rattle.pass_prunes.proofs.PassCells.StepLemmas.{unique_cell}
use Rattle.pass_prunes.specs.PassSteps.Passes.{HasOpenTxn, IsSamePass, pin_of, state_of}
use Rattle.pass_writes.specs.Found.{view_of}
use Rattle.pass_writes.specs.Making.{IsOpenIn, NotesOnly}
use Rattle.pass_writes.specs.Scanning.{EndsWithKeys, IsPortion}

-- ---- the end of keys

-- no row is left from there on
pub none_left_beyond : (g : Graph) → EndsWithKeys g → (from until : Key) → is_below from end_key ≡ false → rows g from until ≡ []
none_left_beyond g ends from until beyond =
    sym (rows_of_values g from until [] refl (λ q. value q (is_between from until q) refl))
  where
    value : (q : Key) (t : Bool) → is_between from until q ≡ t → None ≡ cond t (value_at g q) None
    value q true e = sym (ends q (upto_chain end_key from q beyond (between_parts from until q e).0))
    value q false e = refl

-- nor in a range without keys
pub none_left_behind : (g : Graph) (from until : Key) → is_below from until ≡ false → rows g from until ≡ []
none_left_behind g from until behind =
    sym (rows_of_values g from until [] refl (λ q. value q (is_between from until q) refl))
  where
    clash : (q : Key) → is_between from until q ≡ true → ⊥
    clash q e =
        let parts = between_parts from until q e in
        let off : is_below q until ≡ false = upto_chain until from q behind parts.0 in
        let same : true ≡ false = sym parts.1 ∙ off in cc

    value : (q : Key) (t : Bool) → is_between from until q ≡ t → None ≡ cond t (value_at g q) None
    value q true e = absurd (clash q e)
    value q false e = refl

-- where nothing is left the scan is done
pub scan_is_done : (g : Graph) (first now : Cursor) (given : List Row) → rows g now.next now.until ≡ []
    → length given < 64 → IsUnderWay g first now given → IsUnderWay g first (record now { done = true }) given
scan_is_done g first now given none few under_way = record {
  until = under_way.until;
  kept = under_way.kept;
  ended = λ _. (none, few);
}

-- ---- the end of a run

-- a run that ends before its range does, ends where a step of the scan does
end_stays : (high : Key) (cursor : Cursor) → end_of (lesser high cursor.until) cursor ≡ lesser high cursor.until
end_stays high cursor = go (is_below high cursor.until) refl
  where
    go : (t : Bool) → is_below high cursor.until ≡ t
        → cond (is_below (cond t high cursor.until) cursor.until) (cond t high cursor.until) cursor.until
        ≡ cond t high cursor.until
    go true e = ap (λ t. cond t high cursor.until) e
    go false e = ap (λ t. cond t cursor.until cursor.until) (below_self cursor.until)

pub run_end_stays : (end high : Key) (cursor : Cursor) → end ≡ lesser high cursor.until → end_of end cursor ≡ end
run_end_stays end high cursor is = rw is (end_stays high cursor)

pub run_is_ahead : (end low high : Key) (cursor : Cursor) → end ≡ lesser high cursor.until
    → is_between low high cursor.next ≡ true → is_below cursor.next cursor.until ≡ true
    → is_below cursor.next (end_of end cursor) ≡ true
run_is_ahead end low high cursor is holds ahead =
    rw (run_end_stays end high cursor is) (rw is (both (is_below high cursor.until)))
  where
    both : (t : Bool) → is_below cursor.next (cond t high cursor.until) ≡ true
    both true = (between_parts low high cursor.next holds).1
    both false = ahead

-- ---- whoever is asked for in a cell

all_by_place : {X : Type 0} (P : X → Type 0) (xs : List X) → ((i : ℕ) (x : X) → slice_get xs i ≡ Some x → P x)
    → AllByRecursion P xs
all_by_place P [] each = tt
all_by_place P (x ∷ xs) each = (each 0 x refl, all_by_place P xs (λ i y e. each (suc i) y e))

all_get : {X : Type 0} (P : X → Type 0) (xs : List X) (i : ℕ) (x : X) → AllByRecursion P xs → slice_get xs i ≡ Some x
    → P x
all_get P [] i x h e = cc
all_get {X} P (y ∷ ys) zero x h e = subst P (same y x e) h.0
  where
    same : (a b : X) → ◌≡◌ {A = Option X} (Some a) (Some b) → a ≡ b
    same a b e = cc
all_get P (y ∷ ys) (suc i) x h e = all_get P ys i x h.1 e

same_entries : (rs : List (Key × StampedVersions)) → entries_by (λ row. row.0) (λ row. row.1) rs ≡ rs
same_entries [] = refl
same_entries (r ∷ rs) = λ i. r ∷ same_entries rs i

-- each row of a segment has what its key has
each_row : (P : StampedVersions → Type 0) (s : VersionedRows) → IsSegment s
    → ((q : Key) → covers s q ≡ true → P (versions_at s q)) → AllByRecursion (λ row. P row.1) s.rows
each_row P s sound each = all_by_place (λ (row : Key × StampedVersions). P row.1) s.rows (λ place row e.
    subst P (found place row e) (each row.0
    (all_get (λ (r : Key × StampedVersions). is_between s.low s.high r.0 ≡ true) s.rows place row sound.within e)))
  where
    found : (place : ℕ) (row : Key × StampedVersions) → slice_get s.rows place ≡ Some row → versions_at s row.0 ≡ row.1
    found place row e = ap or_nothing (ap (find key_cmp row.0) (sym (same_entries s.rows))
        ∙ find_there (λ (r : Key × StampedVersions). r.0) (λ (r : Key × StampedVersions). r.1) s.rows place row
        sound.rising e)

-- the key's cell is one of those in hand
record CellOf (P : TakenCell → Type 0) (ts : List TakenCell) (q : Key) : Type 0 where
  cell : TakenCell
  among : IsAmong cell ts
  has : P cell
  is : cell_at ts q ≡ cell.held.value

cell_of : (P : TakenCell → Type 0) (ts : List TakenCell) (q : Key) → AllByRecursion P ts → has_cell ts q ≡ true
    → CellOf P ts q
cell_of P [] q all holds = cc
cell_of P (t ∷ ts) q all holds = go (covers t.held.value q) refl (cell_of P ts q all.1)
  where
    go : (b : Bool) → covers t.held.value q ≡ b → (has_cell ts q ≡ true → CellOf P ts q) → CellOf P (t ∷ ts) q
    go true e rest = record {
      cell = t;
      among = inl refl;
      has = all.0;
      is = ap (λ b. cond b t.held.value (cell_at ts q)) e;
    }
    go false e rest =
        let r = rest (ap (λ b. b || has_cell ts q) (sym e) ∙ holds) in
        record {
          cell = r.cell;
          among = inr r.among;
          has = r.has;
          is = ap (λ b. cond b t.held.value (cell_at ts q)) e ∙ r.is;
        }

-- NAMED: in all rows of a key's cell
pub cell_named : (z : Config) (v : Sight) (names : TxnName → Bool) (ts : List TakenCell) (q : Key) → AreKnown z v ts
    → AreRising ts → AreNamedHeld names (held_rows ts) → has_cell ts q ≡ true
    → AreNamedRows names (cell_at ts q).rows
cell_named z v names ts q known rising named holds =
    subst (λ (s : VersionedRows). AreNamedRows names s.rows) (sym of.is)
    (each_row (IsNamed names) of.cell.held.value of.has.sound (λ k there.
    let here = unique_cell first_key ts rising of.cell of.among k there in
    subst (λ (s : VersionedRows). IsNamed names (versions_at s k)) here.0 (named k here.1)))
  where
    of : CellOf (IsKnown z v) ts q
    of = cell_of (IsKnown z v) ts q known holds

-- ---- the same transaction

notes_twice : (a b c : PassState) → NotesOnly a b → NotesOnly b c → NotesOnly a c
notes_twice a b c ab bc = bc ∙ (λ i. record (ab i) { met = c.met; holders = c.holders; looks = c.looks })

view_kept : (kind : Kind) (a b : PassState) → NotesOnly a b → view_of kind b ≡ view_of kind a
view_kept kind a b notes = ap (view_of kind) notes

open_txn_kept : (a b : PassState) (x y : PinState) → NotesOnly a b → y ≡ x → HasOpenTxn a x → HasOpenTxn b y
open_txn_kept a b x y notes pin opened =
    subst (λ (s : PassState × PinState). HasOpenTxn s.0 s.1) (λ i. (sym notes i, sym pin i)) (record {
      stage = opened.stage;
      laid = opened.laid;
      started = opened.started;
      stamped = opened.stamped;
      pinned = opened.pinned;
    })

-- STILL OPEN
pub still_open : (begun : Begun) (old new : Pass) → NotesOnly (state_of old) (state_of new)
    → pin_of new ≡ pin_of old → IsSamePass old new → IsOpenIn begun old → IsOpenIn begun new
still_open begun old new notes pin same opened = record {
  opened = open_txn_kept (state_of old) (state_of new) (pin_of old) (pin_of new) notes pin opened.opened;
  alone = (λ i. (notes i).readers_out) ∙ opened.alone;
  by = opened.by ∙ (λ i. name_at (sym same.number i) (sym notes i));
  start = opened.start ∙ (λ i. (sym notes i).start);
}

-- how far a scan is, of a transaction that has noted more
pub record IsScanning (kind : Kind) (begun : Begun) (old now : Pass) (first cursor : Cursor) (given : List Row)
    : Type 0 where
  pub notes : NotesOnly (state_of old) (state_of now)
  pub pin : pin_of now ≡ pin_of old
  pub same : IsSamePass old now
  pub going : cursor.done ≡ false
  pub few : length given < 64
  pub under_way : IsUnderWay (view_of kind (state_of old)) first cursor given

module _ (kind : Kind) (begun : Begun) (old mid new : Pass) (first cursor next : Cursor) (given more : List Row)
    (scanning : IsScanning kind begun old mid first cursor given) (notes : NotesOnly (state_of mid) (state_of new))
    (pin : pin_of new ≡ pin_of mid) (same : IsSamePass mid new) (whole : Bool)
    (portion : IsPortion (view_of kind (state_of mid)) cursor next given more whole) where
  pub notes_on : NotesOnly (state_of old) (state_of new)
  notes_on = notes_twice (state_of old) (state_of mid) (state_of new) scanning.notes notes

  pub same_on : IsSamePass old new
  same_on = record { number = same.number ∙ scanning.same.number; reads = same.reads ∙ scanning.same.reads }

  pub under_way_on : IsUnderWay (view_of kind (state_of old)) first next more
  under_way_on = subst (λ g. IsUnderWay g first next more) (view_kept kind (state_of old) (state_of mid) scanning.notes)
      (portion.under_way first (subst (λ g. IsUnderWay g first cursor given)
      (sym (view_kept kind (state_of old) (state_of mid) scanning.notes)) scanning.under_way))

  pub scanning_on : whole ≡ false → IsScanning kind begun old new first next more
  scanning_on onward = record {
    notes = notes_on;
    pin = pin ∙ scanning.pin;
    same = same_on;
    going = (portion.onward onward).0;
    few = (portion.onward onward).1;
    under_way = under_way_on;
  }

-- a scan begins
pub scan_starts : (kind : Kind) (begun : Begun) (pass : Pass) (first : Cursor) (given : List Row) → first.done ≡ false
    → given ≡ [] → IsScanning kind begun pass pass first first given
scan_starts kind begun pass first given going none =
    subst (IsScanning kind begun pass pass first first) (sym none) (record {
      notes = refl;
      pin = refl;
      same = record { number = refl; reads = refl };
      going = going;
      few = omega arith;
      under_way = record {
        until = refl;
        kept = refl;
        ended = λ done. let off : true ≡ false = sym done ∙ going in cc;
      };
    })
