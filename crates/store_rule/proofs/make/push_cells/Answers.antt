use Rattle.std.proofs.Common.{◌∙◌, ◌∷◌, ◌++◌, ◌+◌, ◌<◌, [], ap, arith, length, length-append, refl, subst, sym}
use Rattle.std.specs.Prelude.{reverse}
use Rattle.std.proofs.lemmas.List.{length-reverse, reverse-reverse}
use Rattle.loaded_cells.specs.RuleModel.Sight.{cells_of}
use Rattle.loaded_cells.proofs.WordLemmas.{popped}
use Rattle.store_rule.specs.Making.{AreCells}
use Rattle.store_rule.specs.declared.slot.StoreSlot.TheVariants as slots
use Rattle.store_rule.proofs.MakeLemmas.{cells_more, laid_one, next_resting, resting_slot}
use Rattle.store_rule.proofs.make.push_cells.Goals as goal

pub cells-init : goal.cells-init
cells-init c = (
  c.requires.seat,
  ap length c.requires.none,
  subst (AreCells c.args.accounts.now.table.shared.table_id) (sym c.requires.none) (λ k slot e. cc),
  (
    [],
    sym (ap reverse c.reverse.ensures.items ∙ reverse-reverse c.args.resting.items),
    refl,
  ),
)

pub pop_resting-resting-requires : goal.pop_resting-resting-requires
pop_resting-resting-requires c =
    let h = c.cells.invariant.3 in
    let less : c.cells.cell < cells_of c.args.accounts.now.config =
    let test = c.cells-test.true in let end = c.cells.auto.cell-end in omega arith in
    let all = ap length h.1 in
    let both = length-append h.0 (reverse c.cells.rest.items) in
    let turned = length-reverse c.cells.rest.items in
    let count = c.requires.resting.count in
    let at = h.2 in
    omega (arith, less, all, both, turned, count, at)

pub note_cell-note-requires-clause-kept : goal.note_cell-note-requires-clause-kept
note_cell-note-requires-clause-kept c =
    let z = c.args.accounts.now.config in
    let n = c.cells.cell in
    let less : n < cells_of z = let test = c.cells-test.true in let end = c.cells.auto.cell-end in omega arith in
    let h = c.cells.invariant in
    let k = next_resting z c.args.accounts.now.table.shared.table_id c.args.seat.now.me.0 n c.cells.seat
    c.args.resting.items h.3.0 c.cells.rest.items c.pop_resting-resting.new.list.items c.pop_resting-resting.result
    h.0 c.requires.resting less h.3.1 h.3.2 c.pop_resting-resting.ensures in
    (k.cell, k.has)

pub cells-preserved : goal.cells-preserved
cells-preserved c =
    let z = c.args.accounts.now.config in
    let table = c.args.accounts.now.table.shared.table_id in
    let v = c.args.seat.now.me.0 in
    let n = c.cells.cell in
    let h = c.cells.invariant in
    let less : n < cells_of z = let test = c.cells-test.true in let end = c.cells.auto.cell-end in omega arith in
    let r = c.pop_resting-resting.result in
    let new = c.pop_resting-resting.new.list.items in
    let last = c.pop_resting-resting.ensures in
    let k = next_resting z table v n c.cells.seat c.args.resting.items h.3.0 c.cells.rest.items new r h.0
    c.requires.resting less h.3.1 h.3.2 last in
    let note = c.note_cell-note in
    let slot = slots.Cell r note.result in
    let items = c.in_ok-push.ensures.items in (
      laid_one z table v n c.cells.seat note.new.seat h.0 note.ensures.left,
      ap length items ∙ length-append c.cells.slots.items (slot ∷ []) ∙ ap (λ m. m + 1) h.1,
      subst (AreCells table) (sym items)
          (cells_more table c.cells.slots.items slot n h.1 h.2
          (resting_slot table n k.cell r note.result k.packed k.rests (note.ensures.note k.cell k.has))),
      (
        h.3.0 ++ r ∷ [],
        popped c.args.resting.items h.3.0 c.cells.rest.items new r h.3.1 last,
        length-append h.3.0 (r ∷ []) ∙ ap (λ m. m + 1) h.3.2,
      ),
    )
