use Rattle.std.proofs.Common.{◌≡◌, ◌≤◌, arith, length, refl, subst, sym, ◌∙◌}
use Rattle.seat_views.proofs.NumberLemmas.{some_is}
use Rattle.rule_model.specs.CellsModel.Cells.{CellState}
use Rattle.rule_model.specs.VersionSegment.Resting.{word_rows}
use Rattle.rule_model.specs.CellsModel.Words.{Spells}
use Rattle.rule_model.proofs.CellsModel.WordLemmas.{few_words}
use Rattle.store_words.proofs.accounts.Accounts.load_count.Goals as goal

pub returns-clause-told : goal.returns-clause-told
returns-clause-told c d has =
    let held = c.requires.held in
    let spells : Spells d.block d.segment =
    subst (λ (x : CellState). Spells x.block x.segment) (some_is held.0 d (sym held.1 ∙ has)) held.2 in
    let count : c.load_held-count.result ≡ length (word_rows d.segment) =
    c.load_held-count.ensures.told d has ∙ spells.words 0 (length (word_rows d.segment)) refl in
    let few : length (word_rows d.segment) ≤ 32 = few_words d.segment spells.sound in
    let least = c.min.ensures in
    omega (arith, least, count, few)
