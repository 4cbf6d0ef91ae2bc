use Rattle.std.proofs.Common.{◌≡◌, ◌∙◌, ap, arith, sym, map}
use Rattle.std.specs.Prelude.{true, false}
use Rattle.atomic_table.specs.declared.shared.Seat.{Seat}
use Rattle.latch_table.specs.declared.cells.Held.{Held}
use Rattle.latch_table.specs.declared.sight.LatchSight.{LatchSight}
use Rattle.store_rule.specs.declared.slot.Room.{Room}
use Rattle.store_rule.specs.declared.slot.StoreSlot.{StoreSlot}
use Rattle.pass_cells.specs.Holding.{slots_out}
use Rattle.pass_cells.proofs.DoneLemmas.{none_behind}
use Rattle.pass_cells.proofs.PutLemmas.{out_of_packed}
use Rattle.pass_cells.proofs.TakeLemmas.{no_entries}
use Rattle.pass_cells.proofs.own.PassCells.put_back.Goals as goal

pub give_places-requires-clause-out : goal.give_places-requires-clause-out
give_places-requires-clause-out c =
    let putting = c.pack_all.ensures.packed in
    let numbers = map {A = Held StoreSlot} (λ h. h.cell) c.pack_all.new.packed.items in
    ap (λ (s : Seat StoreSlot (LatchSight Room)). s.me.1) putting.latch ∙ c.requires.taken.out
    ∙ ap slots_out (sym putting.numbers ∙ none_behind numbers)
    ∙ sym (out_of_packed c.pack_all.new.packed.items)

pub returns-clause-none : goal.returns-clause-none
returns-clause-none c =
    let putting = c.pack_all.ensures.packed in (
      record {
        latch = c.give_places.ensures.latch;
        out = c.give_places.ensures.none.0;
        table = putting.table;
        cells = no_entries c.pack_all.new.pass.account.me.0.cells (λ k d h. no (putting.only k d h));
        buffers = let room = putting.buffers in omega (arith, room);
        indexes = putting.no_index;
      },
      c.pack_all.ensures.none,
    )
  where
    no : false ≡ true → ⊥
    no e = cc
