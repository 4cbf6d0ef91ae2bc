use Rattle.std.proofs.Common.{rules, ◌≡◌, ◌+◌, ◌≤◌, ◌<◌, ◌∙◌, arith, length, subst, sym}
use Rattle.pass_sweeps.specs.StoreWords.Spelling.{Stays}
use Rattle.pass_settles.specs.Marks.{IsClearing}
use Rattle.pass_settles.proofs.MarkLemmas.{clears_more, no_pairs}
use Rattle.pass_settles.proofs.StepLemmas.{rest_length}
use Rattle.pass_settles.proofs.marks.clear_marks.Goals as goal

pub marks-init : goal.marks-init
marks-init c =
    let count = c.len-end.ensures in (
      c.store_count.ensures.stays,
      omega (arith, count),
      c.store_count.ensures.held,
      λ d s has loose values rests half.
          let all = rest_length s c.args.resting.now rests in
          subst (λ n. IsClearing c.args.cell s n c.args.seat.now.me.0 d c.store_count.new.seat.me.0) (omega (arith, count, all))
          (c.store_count.ensures.counted d s (length s.rows) has loose (count ∙ all) half),
    )

pub marks-preserved : goal.marks-preserved
marks-preserved c =
    let so_far = c.marks.invariant in
    let below : c.in-Some.place < c.marks.end = c.in-Some.ensures.below in
    let within = so_far.1 in
    let one = c.clear_mark.ensures.stays in (
      record { table = one.table ∙ so_far.0.table; slots = one.slots ∙ so_far.0.slots },
      omega (arith, below, within),
      c.clear_mark.ensures.held,
      λ d s has loose values rests half.
          let all = rest_length s c.args.resting.now rests in
          c.clear_mark.ensures.cleared c.args.seat.now.me.0 d s (omega (arith, all, below, within)) values
          (clears_more c.args.cell s (c.in-Some.place + 1) c.marks.end c.args.seat.now.me.0 d c.marks.seat.me.0 (omega (arith, below))
          (λ p row at ge lt. no_pairs s c.args.resting.now.rows p row rests at
          (λ h there. c.in-Some.ensures.between p h lt (omega (arith, ge)) there))
          (so_far.3 d s has loose values rests half)),
    )

pub overflow_cast-place : goal.overflow_cast-place
overflow_cast-place c =
    let below = c.in-Some.ensures.below in
    let within = c.marks.invariant.1 in
    let few = c.is_at_rest.ensures.small in
    omega (arith, below, within, few)

pub clear_mark-requires-clause-table : goal.clear_mark-requires-clause-table
clear_mark-requires-clause-table c = c.marks.invariant.0.table ∙ c.requires.table

pub clear_mark-requires-clause-place : goal.clear_mark-requires-clause-place
clear_mark-requires-clause-place c =
    let below = c.in-Some.ensures.below in
    let within = c.marks.invariant.1 in
    let few = c.is_at_rest.ensures.small in
    omega (arith, below, within, few)

pub clear_mark-requires-clause-held : goal.clear_mark-requires-clause-held
clear_mark-requires-clause-held c = c.marks.invariant.2

pub returns-clause-stays : goal.returns-clause-stays
returns-clause-stays c = c.marks.invariant.0

pub returns-clause-cleared : goal.returns-clause-cleared
returns-clause-cleared c d s has loose values rests half =
    clears_more c.args.cell s 0 c.marks.end c.args.seat.now.me.0 d c.marks.seat.me.0 (omega arith)
    (λ p row at ge lt. no_pairs s c.args.resting.now.rows p row rests at
    (λ h there. c.in_default.ensures.between p h lt (search rules) there))
    (c.marks.invariant.3 d s has loose values rests half)
