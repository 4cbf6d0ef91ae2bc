-- Cells that are unpacked one after the other.
use Rattle.std.proofs.Common.{◌≡◌, ℕ, ◌<◌, List, [], ◌∷◌, ◌++◌, length, refl, sym, ◌∙◌, ap, subst, arith}
use Rattle.std.specs.Prelude.{Bool, true, false, ◌==◌, ◌||◌, Some, None}
use Rattle.seat_views.specs.Keeping.{kept_at}
use Rattle.latch_table.specs.declared.cells.Held.{Held}
use Rattle.latch_table.specs.declared.sight.LatchSight.{LatchSight}
use Rattle.latch_table.specs.Latched.{is_once, number_of}
use Rattle.atomic_table.specs.declared.shared.Seat.{Seat}
use Rattle.pass_cells.specs.VersionSegment.Rows.{IsSegment}
use Rattle.pass_cells.specs.CellsModel.Cells.{CellState}
use Rattle.pass_cells.specs.RuleModel.Sight.{HasCell, Sight, cells_of}
use Rattle.pass_cells.specs.StoreRuleDeclared.buffers.TheConstants.{MOST_UNPACKED}
use Rattle.pass_cells.specs.StoreRuleDeclared.slot.Room.{Room}
use Rattle.pass_cells.specs.StoreRuleDeclared.slot.StoreSlot.{StoreSlot}
use Rattle.pass_cells.specs.StoreRuleDeclared.store.Pass.{Pass}
use Rattle.pass_cells.specs.StoreRuleDeclared.store.Store.{Store}
use Rattle.pass_cells.specs.declared.taken.TakenCell.{TakenCell}
use Rattle.pass_cells.specs.Holding.{AreKnown, IsGathered, KeepsPass, numbers_of}
use Rattle.pass_cells.specs.Taken.{is_taken}
use Rattle.pass_cells.proofs.TakeLemmas.{after, all_known, apart_more, cell_else, length_more, one_known, taken_more}
use Rattle.pass_leaves.specs.Hand.{AreCellsHeld, IsUnpacking, numbers_held}
use Rattle.pass_leaves.proofs.NumberLemmas.{once_new, taken_held}

pub keeps_itself : (pass : Pass) → KeepsPass pass pass
keeps_itself pass = record {
  number = refl;
  latch = refl;
  slots = refl;
  passes = refl;
  pins = refl;
  journals = refl;
  told = refl;
  readers = refl;
  reads = refl;
}

pub keeps_on : (one two three : Pass) → KeepsPass one two → KeepsPass two three → KeepsPass one three
keeps_on one two three first second = record {
  number = second.number ∙ first.number;
  latch = second.latch ∙ first.latch;
  slots = second.slots ∙ first.slots;
  passes = second.passes ∙ first.passes;
  pins = second.pins ∙ first.pins;
  journals = second.journals ∙ first.journals;
  told = second.told ∙ first.told;
  readers = second.readers ∙ first.readers;
  reads = second.reads ∙ first.reads;
}

-- at first none is
pub unpacking_none : (store : Store) (pass : Pass) (hs : List (Held StoreSlot)) (ts : List TakenCell)
    → pass.account.table_id ≡ store.accounts.table.shared.table_id → AreCellsHeld store hs
    → pass.account.me.0.cells ≡ [] → pass.buffers ≡ MOST_UNPACKED → ts ≡ []
    → IsUnpacking store pass pass hs hs ts
unpacking_none store pass hs ts table held none buffers empty =
    subst (IsUnpacking store pass pass hs hs) (sym empty) (record {
      kept = keeps_itself pass;
      latch = refl;
      table = table;
      numbers = refl;
      held = held;
      known = tt;
      only = λ k c h. not_none c (sym (ap (λ es. kept_at es k) none) ∙ h);
      apart = tt;
      buffers = omega (arith, buffers);
      indexes = refl;
    })
  where
    not_none : (c : CellState) → None ≡ Some c → false ≡ true
    not_none c e = cc

-- and then one more
module _ (store : Store) (old mid new : Pass) (all left : List (Held StoreSlot)) (ts : List TakenCell)
    (h : Held StoreSlot) (t : TakenCell) (un : IsUnpacking store old mid all (h ∷ left) ts)
    (once : is_once (numbers_held all) ≡ true) (cell : t.held.cell ≡ h.cell)
    (gathered : IsGathered store.accounts.config mid new t.held) (sound : IsSegment t.held.value)
    (count : t.rows ≡ length t.held.value.rows) where
  view : new.account.me.0 ≡ after store.accounts.config mid.account.me.0 t.held.cell gathered.state
  view = ap (λ m. m.0) gathered.account.account.me

  fresh : is_taken t.held.cell ts ≡ false
  fresh = taken_held t.held.cell ts ∙ once_new (numbers_of ts) t.held.cell (numbers_held left)
      (ap is_once (ap (λ n. numbers_of ts ++ n ∷ numbers_held left) cell ∙ un.numbers) ∙ once)

  numbers : (xs : List TakenCell)
      → numbers_of (xs ++ t ∷ []) ++ numbers_held left ≡ numbers_of xs ++ numbers_held (h ∷ left)
  numbers [] = ap (λ n. n ∷ numbers_held left) cell
  numbers (x ∷ xs) = ap (λ l. x.held.cell ∷ l) (numbers xs)

  only : (j : ℕ) (d : CellState)
      → HasCell (after store.accounts.config mid.account.me.0 t.held.cell gathered.state) j d → (b : Bool)
      → (j == t.held.cell) ≡ b
      → (is_taken j ts || (j == t.held.cell)) ≡ true
  only j d has true e = ap (λ b. is_taken j ts || b) e ∙ last (is_taken j ts)
    where
      last : (a : Bool) → (a || true) ≡ true
      last true = refl
      last false = refl
  only j d has false e = ap (λ b. b || (j == t.held.cell))
      (un.only j d (sym (cell_else store.accounts.config mid.account.me.0 t.held.cell gathered.state j e) ∙ has))

  keeps : KeepsPass mid new
  keeps = record {
    number = gathered.account.number;
    latch = ap (λ (s : Seat StoreSlot (LatchSight Room)). number_of s.me.0) gathered.account.latch;
    slots = ap (λ m. m.1) gathered.account.account.me;
    passes = ap (λ (x : Sight). x.passes) view;
    pins = ap (λ (x : Sight). x.pins) view;
    journals = ap (λ (x : Sight). x.journals) view;
    told = ap (λ (x : Sight). x.told) view;
    readers = ap (λ (x : Sight). x.readers) view;
    reads = ap (λ (x : Sight). x.reads) view;
  }

  pub unpacking_more : IsUnpacking store old new all left (ts ++ t ∷ [])
  unpacking_more = record {
    kept = keeps_on old mid new un.kept keeps;
    latch = gathered.account.latch ∙ un.latch;
    table = gathered.account.account.table ∙ un.table;
    numbers = numbers ts ∙ un.numbers;
    held = un.held.1;
    known = subst (λ x. AreKnown store.accounts.config x (ts ++ t ∷ [])) (sym view)
        (all_known store.accounts.config mid.account.me.0 t.held.cell gathered.state ts t fresh un.known
        (one_known store.accounts.config mid.account.me.0 gathered.state t
        (subst (λ n. n < cells_of store.accounts.config) (sym cell) un.held.0.inside)
        gathered.same sound gathered.untouched count));
    only = λ j d has. taken_more t j ts ∙ only j d (subst (λ x. HasCell x j d) view has) (j == t.held.cell) refl;
    apart = apart_more t ts un.apart fresh;
    buffers = let e = length_more t ts in let lent = gathered.account.buffers in let room =
        un.buffers in omega (arith, e, lent, room);
    indexes = ap (λ (x : Sight). x.indexes) view ∙ un.indexes;
  }
