use Rattle.std.proofs.Common.{◌∙◌, ◌+◌, ap, subst, sym}
use Rattle.rule_model.specs.Sight.{Sight}
use Rattle.store_words.specs.Spelling.{IsSpelling}
use Rattle.store_words.proofs.SpellLemmas.{stands_next}
use Rattle.store_words.proofs.accounts.Accounts.respell_word.Goals as goal

pub returns-else-found-value-clause-spelled : goal.returns-else-found-value-clause-spelled
returns-else-found-value-clause-spelled c v d low high rows here is =
    let load = c.load_held-found.ensures in
    let equal = c.if-found-value.false in
    subst (λ (w : Sight). IsSpelling c.args.block.cell v d low high rows (c.args.place + 1) w)
    (sym (ap (λ m. m.0) load.same.me))
    (stands_next c.args.block.cell v d low high rows c.args.place c.args.value c.args.seat.now.me.0
    c.requires.place.0 here is (sym equal ∙ load.told is.cell is.has))
