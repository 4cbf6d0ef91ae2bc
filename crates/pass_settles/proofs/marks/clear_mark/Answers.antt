use Rattle.std.proofs.Common.{◌+◌, ◌*◌, ◌∙◌, ap, arith, sym, subst}
use Rattle.std.specs.Prelude.{unwrap_or}
use Rattle.pass_sweeps.specs.CellsModel.Cells.{stored}
use Rattle.pass_sweeps.specs.RuleModel.Sight.{HasCell, Sight, with_cell}
use Rattle.pass_sweeps.proofs.StoreWords.SpellLemmas.{has_now}
use Rattle.pass_settles.proofs.MarkLemmas.{clears_none, clears_one}
use Rattle.pass_settles.proofs.marks.clear_mark.Goals as goal

pub returns-then-plain-word-clause-stays : goal.returns-then-plain-word-clause-stays
returns-then-plain-word-clause-stays c =
    let held = c.requires.held in
    let load = c.holder_load-word.ensures in
    let there : HasCell c.holder_load-word.new.seat.me.0 c.args.cell held.0 =
    subst (λ (v : Sight). HasCell v c.args.cell held.0) (sym (ap (λ m. m.0) load.same.me)) held.1 in
    let knows = c.store_word.ensures.stored held.0 there in
    record { table = knows.table ∙ load.same.table; slots = ap (λ m. m.1) knows.me ∙ ap (λ m. m.1) load.same.me }

pub returns-then-plain-word-clause-held : goal.returns-then-plain-word-clause-held
returns-then-plain-word-clause-held c =
    let held = c.requires.held in
    let load = c.holder_load-word.ensures in
    let there : HasCell c.holder_load-word.new.seat.me.0 c.args.cell held.0 =
    subst (λ (v : Sight). HasCell v c.args.cell held.0) (sym (ap (λ m. m.0) load.same.me)) held.1 in
    let new = stored held.0 (8 + 3 * c.args.place) c.unwrap_or-plain.result in (
      new,
      has_now c.holder_load-word.new.seat.me.0 c.store_word.new.seat.me.0 c.args.cell new
          (ap (λ m. m.0) (c.store_word.ensures.stored held.0 there).me),
      held.2,
    )

pub returns-then-plain-word-clause-cleared : goal.returns-then-plain-word-clause-cleared
returns-then-plain-word-clause-cleared c v d s inside values is =
    let load = c.holder_load-word.ensures in
    let there : HasCell c.holder_load-word.new.seat.me.0 c.args.cell is.cell =
    subst (λ (v : Sight). HasCell v c.args.cell is.cell) (sym (ap (λ m. m.0) load.same.me)) is.has in
    clears_one c.args.cell s c.args.place c.holder_load-word.result c.unwrap_or-plain.result v d c.args.seat.now.me.0
    c.store_word.new.seat.me.0 c.requires.place inside values is (load.told is.cell is.has)
    (c.unwrap_or-plain.ensures ∙ ap (λ o. unwrap_or o c.holder_load-word.result) c.value_in_word.ensures)
    (ap (λ m. m.0) (c.store_word.ensures.stored is.cell there).me
    ∙ ap (λ (x : Sight). with_cell x c.args.cell (stored is.cell (8 + 3 * c.args.place) c.unwrap_or-plain.result))
    (ap (λ m. m.0) load.same.me))

pub returns-else-plain-word-clause-cleared : goal.returns-else-plain-word-clause-cleared
returns-else-plain-word-clause-cleared c v d s inside values is =
    let load = c.holder_load-word.ensures in
    clears_none c.args.cell s c.args.place c.holder_load-word.result v d c.args.seat.now.me.0
    c.holder_load-word.new.seat.me.0 inside values is (load.told is.cell is.has)
    (sym (c.unwrap_or-plain.ensures ∙ ap (λ o. unwrap_or o c.holder_load-word.result) c.value_in_word.ensures)
    ∙ c.if-plain-word.false)
    (ap (λ m. m.0) load.same.me)
