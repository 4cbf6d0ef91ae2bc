use Rattle.std.proofs.Common.{◌≤◌, ◌<◌, ◌∙◌, ◌++◌, ◌∷◌, [], ap, arith, length, length-append, subst, sym, take_all}
use Rattle.seat_views.proofs.NumberLemmas.{some_is}
use Rattle.rule_model.specs.CellsModel.Cells.{CellState}
use Rattle.rule_model.specs.VersionSegment.Resting.{word_rows}
use Rattle.rule_model.specs.CellsModel.Words.{Spells}
use Rattle.rule_model.proofs.CellsModel.WordLemmas.{head_is_told}
use Rattle.rule_model.specs.Sight.{HasCell, Sight}
use Rattle.store_words.proofs.LoadLemmas.{loaded_row, take_next}
use Rattle.store_words.proofs.accounts.Accounts.load_rows.Goals as goal

pub rows-init : goal.rows-init
rows-init c =
    let one = c.load_count-count.ensures.same in
    let two = c.load_key-low.ensures.same in
    let three = c.load_key-high.ensures.same in
    let none = ap length c.clear.ensures in (
      record { table = three.table ∙ two.table ∙ one.table; me = three.me ∙ two.me ∙ one.me },
      omega (arith, none),
      λ d has. c.clear.ensures,
    )

pub rows-preserved : goal.rows-preserved
rows-preserved c =
    let so_far = c.rows.invariant in
    let same = c.load_row-row.ensures.same in
    let more = c.push.ensures in
    let bound = so_far.1 in
    let long = ap length more ∙ length-append c.rows.rows (c.load_row-row.result ∷ []) in (
      record { table = same.table ∙ so_far.0.table; me = same.me ∙ so_far.0.me },
      omega (arith, bound, long),
      λ d has.
          let held = c.requires.held in
          let spells : Spells d.block d.segment =
          subst (λ (x : CellState). Spells x.block x.segment) (some_is held.0 d (sym held.1 ∙ has)) held.2 in
          let there = subst (λ (v : Sight). HasCell v c.args.cell d) (sym (ap (λ m. m.0) so_far.0.me)) has in
          let test = c.rows-test.true in
          let all = c.load_count-count.ensures.told d has in
          let less : c.rows.place < length (word_rows d.segment) = omega (arith, test, all) in
          more ∙ ap (λ l. l ++ c.load_row-row.result ∷ []) (so_far.2 d has)
          ∙ sym (take_next (word_rows d.segment) c.rows.place c.load_row-row.result
          (loaded_row d.block d.segment c.rows.place c.load_row-row.result spells
          (c.load_row-row.ensures.told d there) less)),
    )

pub returns-clause-loaded : goal.returns-clause-loaded
returns-clause-loaded c d has =
    let held = c.requires.held in
    let spells : Spells d.block d.segment =
    subst (λ (x : CellState). Spells x.block x.segment) (some_is held.0 d (sym held.1 ∙ has)) held.2 in
    let told = head_is_told d.block d.segment spells in
    let count = c.load_count-count.ensures in
    let first = subst (λ (v : Sight). HasCell v c.args.cell d) (sym (ap (λ m. m.0) count.same.me)) has in
    let low = c.load_key-low.ensures in
    let second = subst (λ (v : Sight). HasCell v c.args.cell d) (sym (ap (λ m. m.0) low.same.me)) first in
    let high = c.load_key-high.ensures in
    let low_is = low.told d first in
    let high_is = high.told d second in
    let test = c.rows-test.false in
    let end = c.rows.auto.place-end in
    let all = count.told d has in
    let last : length (word_rows d.segment) ≤ c.rows.place = omega (arith, test, end, all) in
    record {
      low_is = λ i. record { src = (low_is.0 ∙ told.low_src) i; second = (low_is.1 ∙ told.low_second) i };
      high_is = λ i. record { src = (high_is.0 ∙ told.high_src) i; second = (high_is.1 ∙ told.high_second) i };
      rows_are = c.rows.invariant.2 d has ∙ take_all c.rows.place (word_rows d.segment) last;
      sound = spells.sound;
      small = spells.small;
    }

pub load_key-high-requires-clause-held : goal.load_key-high-requires-clause-held
load_key-high-requires-clause-held c =
    let held = c.requires.held in
    let view = ap (λ m. m.0) c.load_key-low.ensures.same.me ∙ ap (λ m. m.0) c.load_count-count.ensures.same.me in
    (held.0, subst (λ (v : Sight). HasCell v c.args.cell held.0) (sym view) held.1)

pub load_row-row-requires-clause-held : goal.load_row-row-requires-clause-held
load_row-row-requires-clause-held c =
    let held = c.requires.held in
    let view = ap (λ m. m.0) c.rows.invariant.0.me in
    (held.0, subst (λ (v : Sight). HasCell v c.args.cell held.0) (sym view) held.1)

pub push-requires : goal.push-requires
push-requires c =
    let bound = c.rows.invariant.1 in
    let test = c.rows-test.true in
    let few = c.load_count-count.ensures.few in
    omega (arith, bound, test, few)
