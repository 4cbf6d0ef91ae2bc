use Rattle.std.proofs.Common.{◌+◌, ap}
use Rattle.rule_model.specs.CellsModel.Cells.{stored}
use Rattle.store_words.proofs.SpellLemmas.{has_now, spells_next}
use Rattle.store_words.proofs.accounts.Accounts.spell_word.Goals as goal

pub returns-clause-stays : goal.returns-clause-stays
returns-clause-stays c =
    let held = c.requires.held in
    let knows = c.store_held.ensures.stored held.0 held.1 in
    record { table = knows.table; slots = ap (λ m. m.1) knows.me }

pub returns-clause-spelled : goal.returns-clause-spelled
returns-clause-spelled c v d low high rows here is =
    spells_next c.args.block.cell v d low high rows c.args.place c.args.value c.args.seat.now.me.0
    c.store_held.new.seat.me.0 c.requires.place here is
    (ap (λ m. m.0) (c.store_held.ensures.stored is.cell is.has).me)

pub returns-clause-held : goal.returns-clause-held
returns-clause-held c =
    let held = c.requires.held in
    let new = stored held.0 (c.args.place + 1) c.args.value in (
      new,
      has_now c.args.seat.now.me.0 c.store_held.new.seat.me.0 c.args.block.cell new
          (ap (λ m. m.0) (c.store_held.ensures.stored held.0 held.1).me),
      held.2,
    )
