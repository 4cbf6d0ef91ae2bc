use Rattle.std.proofs.Common.{ap}
use Rattle.pass_sweeps.specs.CellsModel.Cells.{stored}
use Rattle.pass_sweeps.proofs.StoreWords.SpellLemmas.{has_now}
use Rattle.pass_settles.proofs.MarkLemmas.{counts_rows}
use Rattle.pass_settles.proofs.marks.store_count.Goals as goal

pub returns-clause-stays : goal.returns-clause-stays
returns-clause-stays c =
    let held = c.requires.held in
    let knows = c.store_word.ensures.stored held.0 held.1 in
    record { table = knows.table; slots = ap (λ m. m.1) knows.me }

pub returns-clause-held : goal.returns-clause-held
returns-clause-held c =
    let held = c.requires.held in
    let new = stored held.0 1 c.args.count in (
      new,
      has_now c.args.seat.now.me.0 c.store_word.new.seat.me.0 c.args.cell new
          (ap (λ m. m.0) (c.store_word.ensures.stored held.0 held.1).me),
      held.2,
    )

pub returns-clause-counted : goal.returns-clause-counted
returns-clause-counted c d s place has loose is half =
    counts_rows c.args.cell c.args.seat.now.me.0 c.store_word.new.seat.me.0 d s place c.args.count loose is half
    (ap (λ m. m.0) (c.store_word.ensures.stored d has).me)
