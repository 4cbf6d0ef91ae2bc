use Rattle.std.proofs.Common.{◌+◌, ◌*◌, ap, refl, subst, sym}
use Rattle.rule_model.specs.Sight.{HasCell, Sight}
use Rattle.store_words.proofs.LoadLemmas.{row_loaded}
use Rattle.store_words.proofs.accounts.Accounts.load_row.Goals as goal

pub returns-clause-told : goal.returns-clause-told
returns-clause-told c d has =
    let key = c.load_key-key.ensures in
    let words = key.told d has in
    let weight = c.load_held-weight.ensures.told d
    (subst (λ (v : Sight). HasCell v c.args.block.cell d) (sym (ap (λ m. m.0) key.same.me)) has) in
    row_loaded d.block c.args.place (6 + 3 * c.args.place)
    (record { key = c.load_key-key.result; weight = c.load_held-weight.result }) refl words.0 words.1 weight
