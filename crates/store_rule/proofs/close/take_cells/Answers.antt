use Rattle.std.proofs.Common.{◌∙◌, ◌+◌, ◌<◌, ap, arith, length, length-append, refl, reverse, subst, sym}
use Rattle.loaded_cells.specs.RuleModel.Sight.{cells_of}
use Rattle.store_rule.specs.Closed.{AreAtRestFrom}
use Rattle.store_rule.proofs.CloseLemmas.{next_cell, one_cell}
use Rattle.store_rule.proofs.close.take_cells.Goals as goal

pub take_in_cell-resting-requires-clause-slot : goal.take_in_cell-resting-requires-clause-slot
take_in_cell-resting-requires-clause-slot c =
    let z = c.args.accounts.now.config in
    let table = c.args.accounts.now.table.shared.table_id in
    let so_far = c.slots.invariant in
    let less : c.slots._cell < cells_of z =
    let test = c.slots-test.true in let end = c.slots.auto._cell-end in omega arith in
    let next = next_cell z table c.slots._cell c.slots.slots.items so_far.1 less so_far.0 in
    (next.0, (c.pop_slot-slot.ensures z table next.0 next.3).0.cell next.2)

pub slots-preserved : goal.slots-preserved
slots-preserved c =
    let z = c.args.accounts.now.config in
    let table = c.args.accounts.now.table.shared.table_id in
    let so_far = c.slots.invariant in
    let done = c.slots._cell in
    let less : done < cells_of z =
    let test = c.slots-test.true in let end = c.slots.auto._cell-end in omega arith in
    let old = c.slots.slots.items in
    let new = c.pop_slot-slot.new.slots.items in
    let all = so_far.1 in
    let next = next_cell z table done old all less so_far.0 in
    let k = next.0 in
    let was = next.1 in
    let popped = c.pop_slot-slot.ensures z table k next.3 in
    let count = popped.1.count_is in
    let taken = c.take_in_cell-resting.ensures k (popped.0.cell next.2) in
    let knows = taken.1 in
    let items = c.in-Ok.ensures.items in
    let capacity = c.in-Ok.ensures.capacity in
    let room = so_far.3 in
    let ending = so_far.4 in
    let others = so_far.5 in (
      record { count_is = refl; fit = popped.1.fit },
      omega (arith, count, was, all),
      ap length items ∙ length-append c.slots.cells.items _ ∙ ap (λ n. n + 1) so_far.2,
      omega (arith, capacity, room),
      record {
        table_is = knows.table ∙ ending.table_is;
        slots = ap (λ m. m.1) knows.me ∙ ending.slots;
        readers = (λ i. ((knows.me i).0).readers) ∙ ending.readers;
      },
      record {
        passes = (λ i. ((knows.me i).0).passes) ∙ others.passes;
        indexes = (λ i. ((knows.me i).0).indexes) ∙ others.indexes;
        journals = (λ i. ((knows.me i).0).journals) ∙ others.journals;
      },
      subst (λ n. AreAtRestFrom c.take_in_cell-resting.new.account.me.0 n (reverse c.push.new.self.items)) (sym count)
          (subst (λ m. AreAtRestFrom m.0 k (reverse c.push.new.self.items)) (sym knows.me)
          (one_cell c.slots.account.me.0 k (length old) taken.0 c.take_in_cell-resting.result c.slots.cells.items
          c.push.new.self.items was taken.2 taken.3 so_far.6 items)),
    )
