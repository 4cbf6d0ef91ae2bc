use Rattle.std.proofs.Common.{◌≡◌, ◌∷◌, ◌∙◌, ap, arith, sym}
use Rattle.std.specs.Prelude.{false, true}
use Rattle.atomic_table.specs.declared.shared.Seat.{Seat}
use Rattle.atomic_table.specs.Table.{rest}
use Rattle.latch_table.specs.declared.sight.LatchSight.{LatchSight}
use Rattle.pass_cells.specs.StoreRuleDeclared.slot.Room.{Room}
use Rattle.pass_cells.specs.StoreRuleDeclared.slot.StoreSlot.{StoreSlot}
use Rattle.pass_cells.specs.StoreRuleDeclared.slot.StoreSlot.TheVariants as slots
use Rattle.pass_cells.specs.Holding.{slots_out}
use Rattle.pass_cells.proofs.DoneLemmas.{none_behind}
use Rattle.pass_cells.proofs.PutLemmas.{out_of_packed}
use Rattle.pass_cells.proofs.TakeLemmas.{no_entries}
use Rattle.pass_leaves.specs.Hand.{numbers_held}
use Rattle.pass_leaves.proofs.HandLemmas.{putting_all}
use Rattle.pass_leaves.proofs.own.PassLeaves.put_back.Goals as goal

pub give_index_first-requires-clause-out : goal.give_index_first-requires-clause-out
give_index_first-requires-clause-out c =
    let out = ap (λ (s : Seat StoreSlot (LatchSight Room)). s.me.1) c.lay_index-index.ensures.left.latch
    ∙ c.requires.holds.2.out in
    out ∙ (λ i. (sym c.lay_index-index.ensures.held.0 i, slots.Out) ∷ sym (ap rest out) i)

pub pack_all-requires-clause-putting : goal.pack_all-requires-clause-putting
pack_all-requires-clause-putting c =
    putting_all c.args.store.now c.args.pass.now c.lay_index-index.new.pass c.give_index_first.new.latch
    c.requires.holds.0 c.args.self.now.cells.items c.args.index c.requires.holds.2 c.lay_index-index.ensures.left

pub give_places-requires-clause-out : goal.give_places-requires-clause-out
give_places-requires-clause-out c =
    let putting = c.pack_all.ensures.packed in
    let packed = c.pack_all.new.packed.items in
    ap (λ (s : Seat StoreSlot (LatchSight Room)). s.me.1) putting.latch
    ∙ c.give_index_first.ensures.cells
    ∙ ap (λ (s : Seat StoreSlot (LatchSight Room)). rest s.me.1) c.lay_index-index.ensures.left.latch
    ∙ ap rest c.requires.holds.2.out
    ∙ ap slots_out (sym putting.numbers ∙ none_behind (numbers_held packed)) ∙ sym (out_of_packed packed)

pub returns-clause-none : goal.returns-clause-none
returns-clause-none c =
    let putting = c.pack_all.ensures.packed in (
      record {
        latch = c.give_places.ensures.latch;
        out = c.give_places.ensures.none.0;
        table = putting.table;
        cells = no_entries c.pack_all.new.pass.account.me.0.cells (λ k d h. no (putting.only k d h));
        buffers = let room = putting.buffers in omega (arith, room);
        indexes = putting.no_index;
      },
      c.pack_all.ensures.none,
    )
  where
    no : false ≡ true → ⊥
    no e = cc
