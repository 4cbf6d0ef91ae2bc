use Rattle.std.proofs.Common.{ap, subst, sym}
use Rattle.rule_model.specs.Sight.{HasCell, Sight}
use Rattle.store_words.proofs.accounts.Accounts.load_key.Goals as goal

pub returns-clause-told : goal.returns-clause-told
returns-clause-told c d has =
    let src = c.load_held-src.ensures in (
      src.told d has,
      c.load_held-second.ensures.told d
          (subst (λ (v : Sight). HasCell v c.args.block.cell d) (sym (ap (λ m. m.0) src.same.me)) has),
    )
