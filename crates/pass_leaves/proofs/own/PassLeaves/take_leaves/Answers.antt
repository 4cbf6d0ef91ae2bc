use Rattle.std.proofs.Common.{◌≡◌, ◌∷◌, ◌∙◌, ap, rules}
use Rattle.std.specs.Prelude.{slice_index, true}
use Rattle.pass_cells.specs.StoreRuleDeclared.slot.StoreSlot.TheVariants as slots
use Rattle.pass_leaves.proofs.HandLemmas.{holds_taken}
use Rattle.pass_leaves.proofs.LatchLemmas.{latched_once}
use Rattle.pass_leaves.proofs.own.PassLeaves.take_leaves.Goals as goal

pub unpack_all-requires-clause-once : goal.unpack_all-requires-clause-once
unpack_all-requires-clause-once g c =
    latched_once c.args.store.now c.latch_leaves.new.latch c.latch_leaves.new.packed.items
    c.latch_leaves.ensures.latched

pub returns-clause-holds : goal.returns-clause-holds
returns-clause-holds g c =
    let latched = c.latch_leaves.ensures.latched in
    let taken : c.latch_leaves.result ≡ true = search rules in
    let index = c.in-Some.ensures.index in
    let range = c.leaf_at-leaf.result in
    let same : range.leaf ≡ slice_index c.args.leaves.now 0 = search rules in (
      holds_taken c.args.store.now c.take_index.new.pass c.unpack_all.new.pass c.learn_fit.new.pass c.args.leaves.now
          c.latch_leaves.new.packed.items c.unpack_all.new.cells.items c.in-Some.index c.take_index.ensures.latch
          (index.1 ∙ ap (λ l. (c.in-Some.index.cell, slots.Out) ∷ l) latched.out)
          (c.latch_leaves.ensures.numbers taken) c.unpack_all.ensures.unpacked index.0 c.learn_fit.ensures.same,
      (range, rw c.deref.ensures at c.leaf_at-leaf.ensures, same),
    )
