use Rattle.std.proofs.Common.{◌≡◌}
use Rattle.pass_sweeps.specs.CellsModel.Cells.{packed}
use Rattle.pass_settles.proofs.SweptLemmas.{cell_settled, cleared_spells, found_settled, has_cleared, has_raised, has_settled, may_know_settled, packed_settled, settled_half, settled_loose, values_settled}
use Rattle.pass_settles.proofs.swept.settle_known.Goals as goal

pub know_settled-requires-clause-table : goal.know_settled-requires-clause-table
know_settled-requires-clause-table c =
    let store = c.args.store.now in
    let p0 = c.args.pass.now in
    let k = c.args.held.cell in
    let rest = c.args.held.value in
    let sweep = c.args.sweep.now in
    let n = c.args._clock in
    let q = c.requires in
    let c0 = q.taken.0 in
    let is = q.taken.1 in
    let spells = c.raise_cell.ensures.told c0 is.only.cell in
    let one = c.raise_cell.ensures.raised c0 is.only.cell in
    let p1 = c.raise_cell.new.pass in
    (has_raised store p0 p1 k c0 sweep rest n is.only is.rests q.some q.swept q.told q.settles spells one).of.table

pub know_settled-requires-clause-may : goal.know_settled-requires-clause-may
know_settled-requires-clause-may c =
    let store = c.args.store.now in
    let p0 = c.args.pass.now in
    let k = c.args.held.cell in
    let rest = c.args.held.value in
    let sweep = c.args.sweep.now in
    let n = c.args._clock in
    let q = c.requires in
    let c0 = q.taken.0 in
    let is = q.taken.1 in
    let spells = c.raise_cell.ensures.told c0 is.only.cell in
    let one = c.raise_cell.ensures.raised c0 is.only.cell in
    let p1 = c.raise_cell.new.pass in
    (sweep, may_know_settled store p0 p1 k c0 sweep rest n is.only is.rests q.some q.swept q.told q.settles spells one)

pub clear_cell-requires-clause-table : goal.clear_cell-requires-clause-table
clear_cell-requires-clause-table c =
    let store = c.args.store.now in
    let p0 = c.args.pass.now in
    let k = c.args.held.cell in
    let rest = c.args.held.value in
    let sweep = c.args.sweep.now in
    let n = c.args._clock in
    let q = c.requires in
    let c0 = q.taken.0 in
    let is = q.taken.1 in
    let spells = c.raise_cell.ensures.told c0 is.only.cell in
    let one = c.raise_cell.ensures.raised c0 is.only.cell in
    let p1 = c.raise_cell.new.pass in
    let p2 = c.know_settled.new.pass in
    let two = c.know_settled.ensures in
    (has_settled store p0 p1 k c0 sweep rest n is.only is.rests q.some q.swept q.told q.settles spells one p2 two).of.table

pub clear_cell-requires-clause-held : goal.clear_cell-requires-clause-held
clear_cell-requires-clause-held c =
    let store = c.args.store.now in
    let p0 = c.args.pass.now in
    let k = c.args.held.cell in
    let rest = c.args.held.value in
    let sweep = c.args.sweep.now in
    let n = c.args._clock in
    let q = c.requires in
    let c0 = q.taken.0 in
    let is = q.taken.1 in
    let spells = c.raise_cell.ensures.told c0 is.only.cell in
    let one = c.raise_cell.ensures.raised c0 is.only.cell in
    let p1 = c.raise_cell.new.pass in
    let p2 = c.know_settled.new.pass in
    let two = c.know_settled.ensures in
    (cell_settled store p0 p1 k c0 sweep rest n is.only is.rests q.some q.swept q.told q.settles spells one, (has_settled store p0 p1 k c0 sweep rest n is.only is.rests q.some q.swept q.told q.settles spells one p2 two).cell, settled_loose store p0 p1 k c0 sweep rest n is.only is.rests q.some q.swept q.told q.settles spells one)

pub lower_cell-requires-clause-table : goal.lower_cell-requires-clause-table
lower_cell-requires-clause-table c =
    let store = c.args.store.now in
    let p0 = c.args.pass.now in
    let k = c.args.held.cell in
    let rest = c.args.held.value in
    let sweep = c.args.sweep.now in
    let n = c.args._clock in
    let q = c.requires in
    let c0 = q.taken.0 in
    let is = q.taken.1 in
    let spells = c.raise_cell.ensures.told c0 is.only.cell in
    let one = c.raise_cell.ensures.raised c0 is.only.cell in
    let p1 = c.raise_cell.new.pass in
    let p2 = c.know_settled.new.pass in
    let two = c.know_settled.ensures in
    let p3 = c.clear_cell.new.pass in
    let three = c.clear_cell.ensures (cell_settled store p0 p1 k c0 sweep rest n is.only is.rests q.some q.swept q.told q.settles spells one) c0.segment (has_settled store p0 p1 k c0 sweep rest n is.only is.rests q.some q.swept q.told q.settles spells one p2 two).cell (settled_loose store p0 p1 k c0 sweep rest n is.only is.rests q.some q.swept q.told q.settles spells one) (values_settled store p0 p1 k c0 sweep rest n is.only is.rests q.some q.swept q.told q.settles spells one) is.rests
    (settled_half store p0 p1 k c0 sweep rest n is.only is.rests q.some q.swept q.told q.settles spells one) in
    (has_cleared store p0 p1 k c0 sweep rest n is.only is.rests q.some q.swept q.told q.settles spells one p2 two p3 three).of.table

pub lower_cell-requires-clause-held : goal.lower_cell-requires-clause-held
lower_cell-requires-clause-held c =
    let store = c.args.store.now in
    let p0 = c.args.pass.now in
    let k = c.args.held.cell in
    let rest = c.args.held.value in
    let sweep = c.args.sweep.now in
    let n = c.args._clock in
    let q = c.requires in
    let c0 = q.taken.0 in
    let is = q.taken.1 in
    let spells = c.raise_cell.ensures.told c0 is.only.cell in
    let one = c.raise_cell.ensures.raised c0 is.only.cell in
    let p1 = c.raise_cell.new.pass in
    let p2 = c.know_settled.new.pass in
    let two = c.know_settled.ensures in
    let p3 = c.clear_cell.new.pass in
    let three = c.clear_cell.ensures (cell_settled store p0 p1 k c0 sweep rest n is.only is.rests q.some q.swept q.told q.settles spells one) c0.segment (has_settled store p0 p1 k c0 sweep rest n is.only is.rests q.some q.swept q.told q.settles spells one p2 two).cell (settled_loose store p0 p1 k c0 sweep rest n is.only is.rests q.some q.swept q.told q.settles spells one) (values_settled store p0 p1 k c0 sweep rest n is.only is.rests q.some q.swept q.told q.settles spells one) is.rests
    (settled_half store p0 p1 k c0 sweep rest n is.only is.rests q.some q.swept q.told q.settles spells one) in (
      three.clearing.cell,
      (has_cleared store p0 p1 k c0 sweep rest n is.only is.rests q.some q.swept q.told q.settles spells one p2 two p3 three).cell,
      three.clearing.unpacked,
      three.clearing.changed,
      cleared_spells store p0 p1 k c0 sweep rest n is.only is.rests q.some q.swept q.told q.settles spells one p2 two p3 three,
    )

pub returns-clause-taken : goal.returns-clause-taken
returns-clause-taken c =
    let store = c.args.store.now in
    let p0 = c.args.pass.now in
    let k = c.args.held.cell in
    let rest = c.args.held.value in
    let sweep = c.args.sweep.now in
    let n = c.args._clock in
    let q = c.requires in
    let c0 = q.taken.0 in
    let is = q.taken.1 in
    let spells = c.raise_cell.ensures.told c0 is.only.cell in
    let one = c.raise_cell.ensures.raised c0 is.only.cell in
    let p1 = c.raise_cell.new.pass in
    let p2 = c.know_settled.new.pass in
    let two = c.know_settled.ensures in
    let p3 = c.clear_cell.new.pass in
    let three = c.clear_cell.ensures (cell_settled store p0 p1 k c0 sweep rest n is.only is.rests q.some q.swept q.told q.settles spells one) c0.segment (has_settled store p0 p1 k c0 sweep rest n is.only is.rests q.some q.swept q.told q.settles spells one p2 two).cell (settled_loose store p0 p1 k c0 sweep rest n is.only is.rests q.some q.swept q.told q.settles spells one) (values_settled store p0 p1 k c0 sweep rest n is.only is.rests q.some q.swept q.told q.settles spells one) is.rests
    (settled_half store p0 p1 k c0 sweep rest n is.only is.rests q.some q.swept q.told q.settles spells one) in
    let p4 = c.lower_cell.new.pass in
    let four = c.lower_cell.ensures three.clearing.cell (has_cleared store p0 p1 k c0 sweep rest n is.only is.rests q.some q.swept q.told q.settles spells one p2 two p3 three).cell in
    (packed three.clearing.cell, packed_settled store p0 p1 k c0 sweep rest n is.only is.rests q.some q.swept q.told q.settles spells one p2 two p3 three p4 c.settle.result four c.settle.ensures)

pub returns-clause-found : goal.returns-clause-found
returns-clause-found c =
    let store = c.args.store.now in
    let p0 = c.args.pass.now in
    let k = c.args.held.cell in
    let rest = c.args.held.value in
    let sweep = c.args.sweep.now in
    let n = c.args._clock in
    let q = c.requires in
    let c0 = q.taken.0 in
    let is = q.taken.1 in
    let spells = c.raise_cell.ensures.told c0 is.only.cell in
    let one = c.raise_cell.ensures.raised c0 is.only.cell in
    let p1 = c.raise_cell.new.pass in
    let p2 = c.know_settled.new.pass in
    let two = c.know_settled.ensures in
    let p3 = c.clear_cell.new.pass in
    let three = c.clear_cell.ensures (cell_settled store p0 p1 k c0 sweep rest n is.only is.rests q.some q.swept q.told q.settles spells one) c0.segment (has_settled store p0 p1 k c0 sweep rest n is.only is.rests q.some q.swept q.told q.settles spells one p2 two).cell (settled_loose store p0 p1 k c0 sweep rest n is.only is.rests q.some q.swept q.told q.settles spells one) (values_settled store p0 p1 k c0 sweep rest n is.only is.rests q.some q.swept q.told q.settles spells one) is.rests
    (settled_half store p0 p1 k c0 sweep rest n is.only is.rests q.some q.swept q.told q.settles spells one) in
    let p4 = c.lower_cell.new.pass in
    let four = c.lower_cell.ensures three.clearing.cell (has_cleared store p0 p1 k c0 sweep rest n is.only is.rests q.some q.swept q.told q.settles spells one p2 two p3 three).cell in
    found_settled store p0 p1 k c0 sweep rest n is.only is.rests q.some q.swept q.told q.settles spells one p2 two p3 three p4 c.settle.result four c.settle.ensures
