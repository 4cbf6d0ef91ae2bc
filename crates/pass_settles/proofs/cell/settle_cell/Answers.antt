use Rattle.std.proofs.Common.{◌≡◌, ◌∙◌, sym, subst}
use Rattle.seat_views.proofs.NumberLemmas.{some_is}
use Rattle.pass_sweeps.specs.CellsModel.Cells.{CellState, packed}
use Rattle.pass_sweeps.specs.CellsModel.Words.{Spells}
use Rattle.pass_sweeps.specs.PassSteps.Passes.{pin_of, state_of}
use Rattle.pass_settles.specs.Settled.{IsPackedWith, stamped_between}
use Rattle.pass_settles.proofs.ChainLemmas.{cell_settled, cleared_spells, has_cleared, has_raised, has_settled, has_stamped, may_know_settled, may_know_stamped, packed_settled, same_settled, settled_half, settled_loose, values_settled}
use Rattle.pass_settles.proofs.cell.settle_cell.Goals as goal

pub know_stamped-requires-clause-table : goal.know_stamped-requires-clause-table
know_stamped-requires-clause-table c =
    let store = c.args.store.now in
    let p0 = c.args.pass.now in
    let k = c.args.held.cell in
    let rest = c.args.held.value in
    let sweep = c.args.sweep.now in
    let c0 = c.requires.taken.0 in
    let is = c.requires.taken.1 in
    let spells = c.raise_cell.ensures.told c0 is.only.cell in
    let key = c.requires.taken.2 spells in
    let one = c.raise_cell.ensures.raised c0 is.only.cell in
    let p1 = c.raise_cell.new.pass in
    (has_raised store p0 p1 k c0 c.args.by c.args.stamp sweep rest is.only is.rests c.requires.settling c.requires.within c.requires.settles spells one).of.table

pub know_stamped-requires-clause-may : goal.know_stamped-requires-clause-may
know_stamped-requires-clause-may c =
    let store = c.args.store.now in
    let p0 = c.args.pass.now in
    let k = c.args.held.cell in
    let rest = c.args.held.value in
    let sweep = c.args.sweep.now in
    let c0 = c.requires.taken.0 in
    let is = c.requires.taken.1 in
    let spells = c.raise_cell.ensures.told c0 is.only.cell in
    let key = c.requires.taken.2 spells in
    let one = c.raise_cell.ensures.raised c0 is.only.cell in
    let p1 = c.raise_cell.new.pass in
    may_know_stamped store p0 p1 k c0 c.args.by c.args.stamp sweep rest is.only is.rests c.requires.settling c.requires.within c.requires.settles spells one key.0 key.1

pub know_settled-requires-clause-table : goal.know_settled-requires-clause-table
know_settled-requires-clause-table c =
    let store = c.args.store.now in
    let p0 = c.args.pass.now in
    let k = c.args.held.cell in
    let rest = c.args.held.value in
    let sweep = c.args.sweep.now in
    let c0 = c.requires.taken.0 in
    let is = c.requires.taken.1 in
    let spells = c.raise_cell.ensures.told c0 is.only.cell in
    let key = c.requires.taken.2 spells in
    let one = c.raise_cell.ensures.raised c0 is.only.cell in
    let p1 = c.raise_cell.new.pass in
    let p2 = c.know_stamped.new.pass in
    let two = c.know_stamped.ensures in
    (has_stamped store p0 p1 k c0 c.args.by c.args.stamp sweep rest is.only is.rests c.requires.settling c.requires.within c.requires.settles spells one p2 two).of.table

pub know_settled-requires-clause-may : goal.know_settled-requires-clause-may
know_settled-requires-clause-may c =
    let store = c.args.store.now in
    let p0 = c.args.pass.now in
    let k = c.args.held.cell in
    let rest = c.args.held.value in
    let sweep = c.args.sweep.now in
    let c0 = c.requires.taken.0 in
    let is = c.requires.taken.1 in
    let spells = c.raise_cell.ensures.told c0 is.only.cell in
    let key = c.requires.taken.2 spells in
    let one = c.raise_cell.ensures.raised c0 is.only.cell in
    let p1 = c.raise_cell.new.pass in
    let p2 = c.know_stamped.new.pass in
    let two = c.know_stamped.ensures in
    (sweep, may_know_settled store p0 p1 k c0 c.args.by c.args.stamp sweep rest is.only is.rests c.requires.settling c.requires.within c.requires.settles spells one p2 two key.0 key.1)

pub clear_cell-requires-clause-table : goal.clear_cell-requires-clause-table
clear_cell-requires-clause-table c =
    let store = c.args.store.now in
    let p0 = c.args.pass.now in
    let k = c.args.held.cell in
    let rest = c.args.held.value in
    let sweep = c.args.sweep.now in
    let c0 = c.requires.taken.0 in
    let is = c.requires.taken.1 in
    let spells = c.raise_cell.ensures.told c0 is.only.cell in
    let key = c.requires.taken.2 spells in
    let one = c.raise_cell.ensures.raised c0 is.only.cell in
    let p1 = c.raise_cell.new.pass in
    let p2 = c.know_stamped.new.pass in
    let two = c.know_stamped.ensures in
    let p3 = c.know_settled.new.pass in
    let three = c.know_settled.ensures in
    (has_settled store p0 p1 k c0 c.args.by c.args.stamp sweep rest is.only is.rests c.requires.settling c.requires.within c.requires.settles spells one p2 two p3 three).of.table

pub clear_cell-requires-clause-held : goal.clear_cell-requires-clause-held
clear_cell-requires-clause-held c =
    let store = c.args.store.now in
    let p0 = c.args.pass.now in
    let k = c.args.held.cell in
    let rest = c.args.held.value in
    let sweep = c.args.sweep.now in
    let c0 = c.requires.taken.0 in
    let is = c.requires.taken.1 in
    let spells = c.raise_cell.ensures.told c0 is.only.cell in
    let key = c.requires.taken.2 spells in
    let one = c.raise_cell.ensures.raised c0 is.only.cell in
    let p1 = c.raise_cell.new.pass in
    let p2 = c.know_stamped.new.pass in
    let two = c.know_stamped.ensures in
    let p3 = c.know_settled.new.pass in
    let three = c.know_settled.ensures in
    (cell_settled store p0 p1 k c0 c.args.by c.args.stamp sweep rest is.only is.rests c.requires.settling c.requires.within c.requires.settles spells one p2 two, (has_settled store p0 p1 k c0 c.args.by c.args.stamp sweep rest is.only is.rests c.requires.settling c.requires.within c.requires.settles spells one p2 two p3 three).cell, settled_loose store p0 p1 k c0 c.args.by c.args.stamp sweep rest is.only is.rests c.requires.settling c.requires.within c.requires.settles spells one p2 two)

pub lower_cell-requires-clause-table : goal.lower_cell-requires-clause-table
lower_cell-requires-clause-table c =
    let store = c.args.store.now in
    let p0 = c.args.pass.now in
    let k = c.args.held.cell in
    let rest = c.args.held.value in
    let sweep = c.args.sweep.now in
    let c0 = c.requires.taken.0 in
    let is = c.requires.taken.1 in
    let spells = c.raise_cell.ensures.told c0 is.only.cell in
    let key = c.requires.taken.2 spells in
    let one = c.raise_cell.ensures.raised c0 is.only.cell in
    let p1 = c.raise_cell.new.pass in
    let p2 = c.know_stamped.new.pass in
    let two = c.know_stamped.ensures in
    let p3 = c.know_settled.new.pass in
    let three = c.know_settled.ensures in
    let p4 = c.clear_cell.new.pass in
    let four = c.clear_cell.ensures (cell_settled store p0 p1 k c0 c.args.by c.args.stamp sweep rest is.only is.rests c.requires.settling c.requires.within c.requires.settles spells one p2 two) c0.segment (has_settled store p0 p1 k c0 c.args.by c.args.stamp sweep rest is.only is.rests c.requires.settling c.requires.within c.requires.settles spells one p2 two p3 three).cell (settled_loose store p0 p1 k c0 c.args.by c.args.stamp sweep rest is.only is.rests c.requires.settling c.requires.within c.requires.settles spells one p2 two)
    (values_settled store p0 p1 k c0 c.args.by c.args.stamp sweep rest is.only is.rests c.requires.settling c.requires.within c.requires.settles spells one p2 two) is.rests (settled_half store p0 p1 k c0 c.args.by c.args.stamp sweep rest is.only is.rests c.requires.settling c.requires.within c.requires.settles spells one p2 two) in
    (has_cleared store p0 p1 k c0 c.args.by c.args.stamp sweep rest is.only is.rests c.requires.settling c.requires.within c.requires.settles spells one p2 two p3 three p4 four).of.table

pub lower_cell-requires-clause-held : goal.lower_cell-requires-clause-held
lower_cell-requires-clause-held c =
    let store = c.args.store.now in
    let p0 = c.args.pass.now in
    let k = c.args.held.cell in
    let rest = c.args.held.value in
    let sweep = c.args.sweep.now in
    let c0 = c.requires.taken.0 in
    let is = c.requires.taken.1 in
    let spells = c.raise_cell.ensures.told c0 is.only.cell in
    let key = c.requires.taken.2 spells in
    let one = c.raise_cell.ensures.raised c0 is.only.cell in
    let p1 = c.raise_cell.new.pass in
    let p2 = c.know_stamped.new.pass in
    let two = c.know_stamped.ensures in
    let p3 = c.know_settled.new.pass in
    let three = c.know_settled.ensures in
    let p4 = c.clear_cell.new.pass in
    let four = c.clear_cell.ensures (cell_settled store p0 p1 k c0 c.args.by c.args.stamp sweep rest is.only is.rests c.requires.settling c.requires.within c.requires.settles spells one p2 two) c0.segment (has_settled store p0 p1 k c0 c.args.by c.args.stamp sweep rest is.only is.rests c.requires.settling c.requires.within c.requires.settles spells one p2 two p3 three).cell (settled_loose store p0 p1 k c0 c.args.by c.args.stamp sweep rest is.only is.rests c.requires.settling c.requires.within c.requires.settles spells one p2 two)
    (values_settled store p0 p1 k c0 c.args.by c.args.stamp sweep rest is.only is.rests c.requires.settling c.requires.within c.requires.settles spells one p2 two) is.rests (settled_half store p0 p1 k c0 c.args.by c.args.stamp sweep rest is.only is.rests c.requires.settling c.requires.within c.requires.settles spells one p2 two) in
    (four.clearing.cell, (has_cleared store p0 p1 k c0 c.args.by c.args.stamp sweep rest is.only is.rests c.requires.settling c.requires.within c.requires.settles spells one p2 two p3 three p4 four).cell, four.clearing.unpacked, four.clearing.changed, cleared_spells store p0 p1 k c0 c.args.by c.args.stamp sweep rest is.only is.rests c.requires.settling c.requires.within c.requires.settles spells one p2 two p3 three p4 four)

pub returns-clause-settled : goal.returns-clause-settled
returns-clause-settled c d has =
    let store = c.args.store.now in
    let p0 = c.args.pass.now in
    let k = c.args.held.cell in
    let rest = c.args.held.value in
    let sweep = c.args.sweep.now in
    let c0 = c.requires.taken.0 in
    let is = c.requires.taken.1 in
    let spells = c.raise_cell.ensures.told c0 is.only.cell in
    let key = c.requires.taken.2 spells in
    let one = c.raise_cell.ensures.raised c0 is.only.cell in
    let p1 = c.raise_cell.new.pass in
    let p2 = c.know_stamped.new.pass in
    let two = c.know_stamped.ensures in
    let p3 = c.know_settled.new.pass in
    let three = c.know_settled.ensures in
    let p4 = c.clear_cell.new.pass in
    let four = c.clear_cell.ensures (cell_settled store p0 p1 k c0 c.args.by c.args.stamp sweep rest is.only is.rests c.requires.settling c.requires.within c.requires.settles spells one p2 two) c0.segment (has_settled store p0 p1 k c0 c.args.by c.args.stamp sweep rest is.only is.rests c.requires.settling c.requires.within c.requires.settles spells one p2 two p3 three).cell (settled_loose store p0 p1 k c0 c.args.by c.args.stamp sweep rest is.only is.rests c.requires.settling c.requires.within c.requires.settles spells one p2 two)
    (values_settled store p0 p1 k c0 c.args.by c.args.stamp sweep rest is.only is.rests c.requires.settling c.requires.within c.requires.settles spells one p2 two) is.rests (settled_half store p0 p1 k c0 c.args.by c.args.stamp sweep rest is.only is.rests c.requires.settling c.requires.within c.requires.settles spells one p2 two) in
    let p5 = c.lower_cell.new.pass in
    let five = c.lower_cell.ensures four.clearing.cell (has_cleared store p0 p1 k c0 c.args.by c.args.stamp sweep rest is.only is.rests c.requires.settling c.requires.within c.requires.settles spells one p2 two p3 three p4 four).cell in
    let same : c0 ≡ d = some_is c0 d (sym is.only.cell ∙ has) in (
      subst (λ (x : CellState). Spells x.block x.segment) same spells,
      packed four.clearing.cell,
      subst (λ (x : CellState). IsPackedWith store p5 (stamped_between x.segment.low x.segment.high (state_of p0)) (pin_of p0) k
          c.settle.result (packed four.clearing.cell)) same
          (packed_settled store p0 p1 k c0 c.args.by c.args.stamp sweep rest is.only is.rests c.requires.settling c.requires.within c.requires.settles spells one p2 two p3 three p4 four p5 c.settle.result five c.settle.ensures),
    )

pub returns-clause-same : goal.returns-clause-same
returns-clause-same c =
    let store = c.args.store.now in
    let p0 = c.args.pass.now in
    let k = c.args.held.cell in
    let rest = c.args.held.value in
    let sweep = c.args.sweep.now in
    let c0 = c.requires.taken.0 in
    let is = c.requires.taken.1 in
    let spells = c.raise_cell.ensures.told c0 is.only.cell in
    let key = c.requires.taken.2 spells in
    let one = c.raise_cell.ensures.raised c0 is.only.cell in
    let p1 = c.raise_cell.new.pass in
    let p2 = c.know_stamped.new.pass in
    let two = c.know_stamped.ensures in
    let p3 = c.know_settled.new.pass in
    let three = c.know_settled.ensures in
    let p4 = c.clear_cell.new.pass in
    let four = c.clear_cell.ensures (cell_settled store p0 p1 k c0 c.args.by c.args.stamp sweep rest is.only is.rests c.requires.settling c.requires.within c.requires.settles spells one p2 two) c0.segment (has_settled store p0 p1 k c0 c.args.by c.args.stamp sweep rest is.only is.rests c.requires.settling c.requires.within c.requires.settles spells one p2 two p3 three).cell (settled_loose store p0 p1 k c0 c.args.by c.args.stamp sweep rest is.only is.rests c.requires.settling c.requires.within c.requires.settles spells one p2 two)
    (values_settled store p0 p1 k c0 c.args.by c.args.stamp sweep rest is.only is.rests c.requires.settling c.requires.within c.requires.settles spells one p2 two) is.rests (settled_half store p0 p1 k c0 c.args.by c.args.stamp sweep rest is.only is.rests c.requires.settling c.requires.within c.requires.settles spells one p2 two) in
    let p5 = c.lower_cell.new.pass in
    let five = c.lower_cell.ensures four.clearing.cell (has_cleared store p0 p1 k c0 c.args.by c.args.stamp sweep rest is.only is.rests c.requires.settling c.requires.within c.requires.settles spells one p2 two p3 three p4 four).cell in
    same_settled store p0 p1 k c0 c.args.by c.args.stamp sweep rest is.only is.rests c.requires.settling c.requires.within c.requires.settles spells one p2 two p3 three p4 four p5 c.settle.result five c.settle.ensures
