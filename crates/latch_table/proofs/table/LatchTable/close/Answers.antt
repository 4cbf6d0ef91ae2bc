use Rattle.std.proofs.Common.{◌∙◌, ◌∷◌, ◌≤◌, ◌+◌, [], sym, ap, arith, length, length-append, false}
use Rattle.std.specs.Prelude.{slice_index_or, slice_get}
use lib.ListN.{get_elem?}
use Rattle.std.specs.Mem.Slots.{slots_items, slots_filled, slots_len, slots_counts}
use Rattle.latch_table.proofs.EndLaws.{one_emptied, others_full, one_gathered, all_fit}
use Rattle.latch_table.proofs.table.LatchTable.close.Goals as goal

pub slots-preserved : goal.slots-preserved
slots-preserved g c =
    let h = c.slots.invariant in
    let others = c.take-value.ensures.others in
    let items = c.in-Ok.ensures.items in
    let value = c.take-value.result in
    let there = ap (λ l. get_elem? l c.slots.place) (sym h.1) ∙ c.take-value.ensures.value in (
      others.2 ∙ h.0,
      others.0 ∙ h.1,
      (λ k lt. ap (λ l. slice_index_or l k false) others.1
          ∙ one_emptied (slots_filled c.slots.closed.slots) c.slots.place h.2 k lt),
      (λ k le lt. ap (λ l. slice_index_or l k false) others.1
          ∙ others_full (slots_filled c.slots.closed.slots) c.slots.place
          (slots_len c.close_with-closed.result.slots) h.3 k le lt),
      ap length items ∙ length-append c.slots.values.items (value ∷ []) ∙ ap (λ n. n + 1) h.4,
      (let cap = c.push.ensures.capacity in let old = h.5 in omega arith),
      (λ k v e. one_gathered (slots_items c.close_with-closed.result.slots) c.slots.values.items c.slots.place
          value h.4 h.6 there k v (ap (λ l. slice_get l k) (sym items) ∙ e)),
    )

pub returns-clause-fits : goal.returns-clause-fits
returns-clause-fits g c =
    let key = c.args.self.table.shared.key in
    let values = c.close_with-closed.ensures.values in
    let h = c.slots.invariant in
    let len = (slots_counts c.close_with-closed.result.slots).0 in
    let few : length c.slots.values.items ≤ length (slots_items c.close_with-closed.result.slots) =
    (let all = c.slots.auto.place-end in let count = c.slot_count-count.ensures in let have = h.4 in
    omega arith) in
    all_fit g.V.Slot.fits (g.V.Slot.passes key) key _
    (slots_items c.close_with-closed.result.slots) c.args.all.id c.args.all.me.0 c.slots.values.items
    c.requires.whole values.2 few h.6
