-- Latches of cells, one more at a time.
use Rattle.std.proofs.Common.{◌≡◌, ℕ, ◌<◌, List, [], ◌∷◌, ◌++◌, refl, sym, ◌∙◌, ap, subst, arith}
use Rattle.std.specs.Prelude.{true, false}
use Rattle.atomic_table.specs.declared.shared.Seat.{Seat}
use Rattle.latch_table.specs.declared.cells.Held.{Held}
use Rattle.latch_table.specs.declared.sight.LatchSight.{LatchSight}
use Rattle.latch_table.specs.Latched.{is_once, out_of}
use Rattle.latch_table.specs.Several.{taken_of}
use Rattle.pass_cells.specs.RuleModel.Sight.{cells_of}
use Rattle.pass_cells.specs.StoreRule.Slots.{FitsPlace, IsCellSlot}
use Rattle.pass_cells.specs.StoreRuleDeclared.slot.Room.{Room}
use Rattle.pass_cells.specs.StoreRuleDeclared.slot.StoreSlot.{StoreSlot}
use Rattle.pass_cells.specs.StoreRuleDeclared.slot.StoreSlot.TheVariants as slots
use Rattle.pass_cells.specs.StoreRuleDeclared.store.Store.{Store}
use Rattle.pass_cells.specs.Holding.{AreFit, IsLatchOf}
use Rattle.pass_cells.proofs.PutLemmas.{fits_cell}
use Rattle.pass_leaves.specs.Hand.{AreCellsHeld, HasLatched, IsCellHeld, numbers_held}
use Rattle.pass_leaves.proofs.NumberLemmas.{once_taken}

-- what is taken last stands first among the slots that are out
pub out_first : (hs : List (Held StoreSlot)) (h : Held StoreSlot)
    → taken_of slots.Out (hs ++ h ∷ []) ≡ (h.cell, slots.Out) ∷ taken_of slots.Out hs
out_first [] h = refl
out_first (x ∷ xs) h = ap (λ l. l ++ (x.cell, slots.Out) ∷ []) (out_first xs h)

pub numbers_behind : (hs : List (Held StoreSlot)) (h : Held StoreSlot)
    → numbers_held (hs ++ h ∷ []) ≡ numbers_held hs ++ h.cell ∷ []
numbers_behind [] h = refl
numbers_behind (x ∷ xs) h = ap (λ l. x.cell ∷ l) (numbers_behind xs h)

held_behind : (store : Store) (hs : List (Held StoreSlot)) (h : Held StoreSlot) → AreCellsHeld store hs
    → IsCellHeld store h
    → AreCellsHeld store (hs ++ h ∷ [])
held_behind store [] h all one = (one, tt)
held_behind store (x ∷ xs) h all one = (all.0, held_behind store xs h all.1 one)

-- cells that are as they were taken fit their places
pub held_fit : (store : Store) (hs : List (Held StoreSlot)) → AreCellsHeld store hs → AreFit store hs
held_fit store [] all = tt
held_fit store (h ∷ hs) all = (
  (
    fits_cell store.accounts.config store.accounts.table.shared.table_id h.cell h.value all.0.inside all.0.slot,
    let inside = all.0.inside in omega (arith, inside),
  ),
  held_fit store hs all.1,
)

-- one cell more is held
pub latched_more : (store : Store) (old new : Seat StoreSlot (LatchSight Room)) (hs : List (Held StoreSlot))
    (h : Held StoreSlot) (k : ℕ) → HasLatched store old hs → IsLatchOf store new → h.cell ≡ k → h.changed ≡ false
    → k < cells_of store.accounts.config
    → FitsPlace store.accounts.config store.accounts.table.shared.table_id k h.value
    → new.me.1 ≡ (k, slots.Out) ∷ old.me.1 → HasLatched store new (hs ++ h ∷ [])
latched_more store old new hs h k has latch cell unchanged inside fits out = record {
  latch_of = latch;
  out = out ∙ (λ i. (sym cell i, slots.Out) ∷ has.out i) ∙ sym (out_first hs h);
  held = held_behind store hs h has.held (record {
    inside = subst (λ n. n < cells_of store.accounts.config) (sym cell) inside;
    slot = subst (λ n. IsCellSlot store.accounts.table.shared.table_id n h.value) (sym cell) (fits.cell inside);
    unchanged = unchanged;
  });
}

-- a seat that has no place has the latches of none
pub none_latched : (store : Store) (latch : Seat StoreSlot (LatchSight Room)) (hs : List (Held StoreSlot))
    → IsLatchOf store latch → latch.me.1 ≡ [] → hs ≡ [] → HasLatched store latch hs
none_latched store latch hs of none empty = record {
  latch_of = of;
  out = none ∙ ap (taken_of slots.Out) (sym empty);
  held = subst (AreCellsHeld store) (sym empty) tt;
}

-- and the cells whose latches it has are each once
pub latched_once : (store : Store) (latch : Seat StoreSlot (LatchSight Room)) (hs : List (Held StoreSlot))
    → HasLatched store latch hs → is_once (numbers_held hs) ≡ true
latched_once store latch hs has =
    once_taken hs (ap (λ (l : List (ℕ × StoreSlot)). is_once (out_of l)) (sym has.out) ∙ has.latch_of.seat.once)
