use Rattle.std.proofs.Common.{sym, ◌∙◌, ap}
use Rattle.latch_table.specs.Several.{taken_of}
use Rattle.pass_cells.specs.StoreRuleDeclared.slot.StoreSlot.TheVariants as slots
use Rattle.pass_leaves.proofs.LatchLemmas.{out_first}
use Rattle.pass_leaves.proofs.latch.give_all_places.Goals as goal

pub give_places-requires-clause-out : goal.give_places-requires-clause-out
give_places-requires-clause-out c =
    c.requires.out ∙ sym (out_first c.args.packed.now.items c.args.index)
    ∙ ap (taken_of slots.Out) (sym c.in-Ok.ensures.items)
