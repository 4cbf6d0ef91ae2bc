-- Cells in hand that are packed and put back, one after the other.
use Rattle.std.proofs.Common.{◌≡◌, ◌≢◌, inl, inr, ℕ, ◌+◌, ◌<◌, List, [], ◌∷◌, ◌++◌, map, refl, sym, ◌∙◌, ap, subst, arith}
use Rattle.std.specs.Prelude.{Bool, true, false, ◌==◌, ◌||◌}
use Rattle.atomic_table.specs.Seated.{TableId}
use Rattle.atomic_table.specs.declared.shared.Seat.{Seat}
use Rattle.graph_model.proofs.TestLemmas.{either_of, eq_of, never, self_eq}
use Rattle.txn_manager.specs.declared.config.Config.{Config}
use Rattle.seat_views.specs.Keeping.{kept_at}
use Rattle.seat_views.proofs.NumberLemmas.{without_kept}
use Rattle.latch_table.specs.declared.cells.Held.{Held}
use Rattle.latch_table.specs.declared.sight.LatchSight.{LatchSight}
use Rattle.latch_table.specs.Latched.{number_of}
use Rattle.latch_table.specs.Several.{taken_of}
use Rattle.store_rule.specs.CellsModel.Cells.{CellState}
use Rattle.store_rule.specs.RuleModel.Sight.{HasCell, Sight, cells_of}
use Rattle.store_rule.specs.StoreWords.Notes.{without_cell}
use Rattle.store_rule.specs.StoreWords.Spelling.{KeepsOtherCells}
use Rattle.store_rule.proofs.StoreWords.NoteLemmas.{without_else}
use Rattle.store_rule.specs.Passes.{OnlyAccount}
use Rattle.store_rule.specs.Packing.{IsPackedCell}
use Rattle.store_rule.specs.Slots.{FitsPlace, IsCellSlot}
use Rattle.store_rule.specs.declared.buffers.TheConstants.{MOST_UNPACKED}
use Rattle.store_rule.specs.declared.slot.Room.{Room}
use Rattle.store_rule.specs.declared.slot.StoreSlot.{StoreSlot}
use Rattle.store_rule.specs.declared.slot.StoreSlot.TheVariants as slots
use Rattle.store_rule.specs.declared.store.Pass.{Pass}
use Rattle.store_rule.specs.declared.store.Store.{Store}
use Rattle.row_writes.specs.VersionSegment.Resting.{RestingRows}
use Rattle.pass_cells.specs.declared.taken.TakenCell.{TakenCell}
use Rattle.pass_cells.specs.Holding.{AreFit, AreKnown, HasTaken, IsKnown, IsPutting, numbers_of, slots_out}
use Rattle.pass_cells.specs.Taken.{is_taken}

-- slots that are out, by the numbers of what was taken
pub out_of_packed : (helds : List (Held StoreSlot)) → taken_of slots.Out helds ≡ slots_out (map (λ h. h.cell) helds)
out_of_packed [] = refl
out_of_packed (h ∷ hs) = ap (λ l. l ++ (h.cell, slots.Out) ∷ []) (out_of_packed hs)

-- what fits a cell's place
pub fits_cell : (z : Config) (table : TableId) (k : ℕ) (slot : StoreSlot) → k < cells_of z → IsCellSlot table k slot
    → FitsPlace z table k slot
fits_cell z table k slot inside fits = record {
  cell = λ _. fits;
  index = λ e. absurd (omega (arith, inside, e));
  journal = λ e. absurd (omega (arith, inside, e));
}

-- ---- the first cell is put

module _ (store : Store) (old mid packed new : Pass) (all left : List TakenCell) (t : TakenCell)
    (before : List (Held StoreSlot)) (resting : RestingRows) (held : Held StoreSlot)
    (putting : IsPutting store old mid all (t ∷ left) before)
    (pack : IsPackedCell t.held.cell putting.known.0.state mid packed resting)
    (given : mid.buffers < MOST_UNPACKED → packed.buffers ≡ mid.buffers + 1)
    (lay : OnlyAccount packed new (without_cell t.held.cell packed.account.me.0))
    (cell : held.cell ≡ t.held.cell)
    (slot : IsCellSlot store.accounts.table.shared.table_id t.held.cell held.value) where
  abbrev k : ℕ
  k = t.held.cell

  view : new.account.me.0 ≡ without_cell k packed.account.me.0
  view = ap (λ m. m.0) lay.account.me

  others : KeepsOtherCells k mid.account.me.0 packed.account.me.0
  others = pack.again.others

  -- cells of other numbers are known as before
  cell_else : (l : ℕ) → l ≢ k → kept_at new.account.me.0.cells l ≡ kept_at mid.account.me.0.cells l
  cell_else l other = ap (λ (x : Sight). kept_at x.cells l) view ∙ without_else k l packed.account.me.0.cells other
      ∙ others.cells l other

  known_else : (x : TakenCell) → x.held.cell ≢ k → IsKnown store.accounts.config mid.account.me.0 x
      → IsKnown store.accounts.config new.account.me.0 x
  known_else x other known = record {
    state = known.state;
    has = cell_else x.held.cell other ∙ known.has;
    inside = known.inside;
    unpacked = known.unpacked;
    wide = known.wide;
    same = known.same;
    sound = known.sound;
    small = known.small;
    untouched = known.untouched;
    count = known.count;
  }

  all_else : (xs : List TakenCell) → is_taken k xs ≡ false → AreKnown store.accounts.config mid.account.me.0 xs
      → AreKnown store.accounts.config new.account.me.0 xs
  all_else [] none known = tt
  all_else (x ∷ xs) none known =
      let parts = neither (k == x.held.cell) (is_taken k xs) none in (
        known_else x (λ e. never (k == x.held.cell) (ap (λ n. k == n) e ∙ self_eq k) parts.0) known.0,
        all_else xs
            parts.1 known.1,
      )
    where
      neither : (a b : Bool) → (a || b) ≡ false → (a ≡ false) × (b ≡ false)
      neither true b e = cc
      neither false b e = (refl, e)

  numbers : map (λ h. h.cell) (before ++ held ∷ []) ++ numbers_of left ≡ numbers_of all
  numbers = go before ∙ putting.numbers
    where
      go : (xs : List (Held StoreSlot)) → map (λ h. h.cell) (xs ++ held ∷ []) ++ numbers_of left ≡ map
          (λ h. h.cell) xs ++ numbers_of (t ∷ left)
      go [] = ap (λ n. n ∷ numbers_of left) cell
      go (x ∷ xs) = ap (λ l. x.cell ∷ l) (go xs)

  fit : (xs : List (Held StoreSlot)) → AreFit store xs → AreFit store (xs ++ held ∷ [])
  fit [] all = (
    subst (λ n. FitsPlace store.accounts.config store.accounts.table.shared.table_id n held.value ×
        (n < cells_of store.accounts.config + 2)) (sym cell) (
          fits_cell store.accounts.config store.accounts.table.shared.table_id k held.value putting.known.0.inside
              slot,
          (let inside = putting.known.0.inside in omega (arith, inside)),
        ),
    tt,
  )
  fit (x ∷ xs) all = (all.0, fit xs all.1)

  -- no other cell is known
  only : (l : ℕ) (c : CellState) → HasCell new.account.me.0 l c → is_taken l left ≡ true
  only l c has =
      let was = without_kept k packed.account.me.0.cells l c (ap (λ (x : Sight). kept_at x.cells l) (sym view) ∙ has) in
      elim (either_of (l == k) (is_taken l left) (putting.only l c (sym (others.cells l was.1) ∙ was.0))) as
      (λ _. is_taken l left ≡ true) [
        | inl same ↦ absurd (was.1 (eq_of l k same))
        | inr rest ↦ rest
      ]

  same_part : {X : Type 0} (part : Sight → X) → part (without_cell k packed.account.me.0) ≡ part packed.account.me.0
      → part packed.account.me.0 ≡ part mid.account.me.0
      → part mid.account.me.0 ≡ part old.account.me.0 → part new.account.me.0 ≡ part old.account.me.0
  same_part part a b c = ap part view ∙ a ∙ b ∙ c

  pub putting_more : IsPutting store old new all left (before ++ held ∷ [])
  putting_more = record {
    kept = record {
      number = lay.number ∙ pack.number ∙ putting.kept.number;
      latch = ap (λ (s : Seat StoreSlot (LatchSight Room)). number_of s.me.0) (lay.latch ∙ pack.latch)
          ∙ putting.kept.latch;
      slots = ap (λ m. m.1) lay.account.me ∙ pack.account.slots ∙ putting.kept.slots;
      passes = same_part (λ (x : Sight). x.passes) refl others.passes putting.kept.passes;
      pins = same_part (λ (x : Sight). x.pins) refl others.pins putting.kept.pins;
      journals = same_part (λ (x : Sight). x.journals) refl others.journals putting.kept.journals;
      told = same_part (λ (x : Sight). x.told) refl others.told putting.kept.told;
      readers = same_part (λ (x : Sight). x.readers) refl others.readers putting.kept.readers;
      reads = same_part (λ (x : Sight). x.reads) refl others.reads putting.kept.reads;
    };
    latch = lay.latch ∙ pack.latch ∙ putting.latch;
    table = lay.account.table ∙ pack.account.table ∙ putting.table;
    numbers = numbers;
    fit = fit before putting.fit;
    known = all_else left putting.apart.0 putting.known.1;
    only = only;
    apart = putting.apart.1;
    buffers = let all = putting.buffers in let one = given (omega (arith, all)) in let same =
        lay.buffers in omega (arith, all, one, same);
    no_index = ap (λ (x : Sight). x.indexes) view ∙ others.indexes ∙ putting.no_index;
  }

-- ---- at first, and once all are put

pub putting_none : (store : Store) (pass : Pass) (ts : List TakenCell) → HasTaken store pass ts
    → IsPutting store pass pass ts ts []
putting_none store pass ts has = record {
  kept = record {
    number = refl;
    latch = refl;
    slots = refl;
    passes = refl;
    pins = refl;
    journals = refl;
    told = refl;
    readers = refl;
    reads = refl;
  };
  latch = refl;
  table = has.table;
  numbers = refl;
  fit = tt;
  known = has.known;
  only = has.only;
  apart = has.apart;
  buffers = has.buffers;
  no_index = has.no_index;
}
