use Rattle.std.proofs.Common.{◌≡◌, ◌<◌, ◌∙◌, ap, arith, refl, subst, sym}
use Rattle.store_rule.specs.RuleModel.Sight.{cells_of, with_cell}
use Rattle.store_rule.specs.CellsModel.Cells.{CellState}
use Rattle.store_rule.specs.StoreWords.Notes.{without_cell}
use Rattle.store_rule.specs.Slots.{IsCellSlot}
use Rattle.cases_store.proofs.VisitLemmas.{keeps_both, known_now, only_account}
use Rattle.cases_store.proofs.cell.change_cell.Goals as goal

pub pack_again-held-requires-clause-table : goal.pack_again-held-requires-clause-table
pack_again-held-requires-clause-table c = c.gather_cell-held.ensures.gathered.1.account.table ∙ c.requires.table

pub pack_again-held-requires-clause-cell : goal.pack_again-held-requires-clause-cell
pack_again-held-requires-clause-cell c =
    subst (λ k. k < cells_of c.args.store.now.accounts.config) (sym c.gather_cell-held.ensures.held.0) c.requires.cell

pub pack_again-held-requires-clause-packed : goal.pack_again-held-requires-clause-packed
pack_again-held-requires-clause-packed c =
    let g = c.gather_cell-held.ensures.gathered in
    let state : CellState = g.0 in (
      state,
      known_now c.args.pass.now.account.me.0 c.gather_cell-held.new.pass.account.me.0 c.args.held.cell
          c.gather_cell-held.result.cell state c.gather_cell-held.ensures.held.0 (ap (λ m. m.0) g.1.account.me),
      g.2,
      g.3,
    )

pub pack_again-held-requires-clause-buffers : goal.pack_again-held-requires-clause-buffers
pack_again-held-requires-clause-buffers c =
    let same = c.gather_cell-held.ensures.gathered.1.buffers in
    let some = c.requires.buffers in
    omega (arith, same, some)

pub lay_cell-requires-clause-table : goal.lay_cell-requires-clause-table
lay_cell-requires-clause-table c =
    c.pack_again-held.ensures.kept.table ∙ c.gather_cell-held.ensures.gathered.1.account.table ∙ c.requires.table

pub returns-clause-held : goal.returns-clause-held
returns-clause-held c =
    c.lay_cell.ensures.held.0 ∙ c.pack_again-held.ensures.held ∙ c.gather_cell-held.ensures.held.0

pub returns-clause-slot : goal.returns-clause-slot
returns-clause-slot c =
    subst (λ k. IsCellSlot c.args.store.now.accounts.table.shared.table_id k c.lay_cell.result.value)
    (c.pack_again-held.ensures.held ∙ c.gather_cell-held.ensures.held.0) c.lay_cell.ensures.slot

pub returns-clause-latch : goal.returns-clause-latch
returns-clause-latch c =
    c.lay_cell.ensures.left.latch ∙ c.pack_again-held.ensures.latch ∙ c.gather_cell-held.ensures.gathered.1.latch

pub returns-clause-kept : goal.returns-clause-kept
returns-clause-kept c =
    let p0 = c.args.pass.now in
    let p1 = c.gather_cell-held.new.pass in
    let p2 = c.pack_again-held.new.pass in
    let p3 = c.lay_cell.new.pass in
    let g = c.gather_cell-held.ensures.gathered in
    let gathered = only_account p0 p1 (with_cell p0.account.me.0 c.args.held.cell g.0) g.1 refl refl in
    let laid = only_account p2 p3 (without_cell c.pack_again-held.result.cell p2.account.me.0) c.lay_cell.ensures.left
    refl refl in
    keeps_both p0 p1 p3 gathered (keeps_both p1 p2 p3 c.pack_again-held.ensures.kept laid)
