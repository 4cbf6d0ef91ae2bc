use Rattle.std.proofs.Common.{refl, sym, ◌∙◌}
use Rattle.script_lang.proofs.PlaceLemmas.{among_is}
use Rattle.script_lang.proofs.arguments.new_name.Goals as goal

pub returns-then-contains : goal.returns-then-contains
returns-then-contains c =
    let taken = among_is c.args.taken.now c.args.field.now c.contains.result c.contains.ensures in
    rw (sym c.is_file_name.ensures ∙ c.if-not-is_file_name.false, sym taken ∙ c.if-contains.true) refl

pub returns : goal.returns
returns c =
    let taken = among_is c.args.taken.now c.args.field.now c.contains.result c.contains.ensures in
    (rw (sym c.is_file_name.ensures ∙ c.if-not-is_file_name.false, sym taken ∙ c.if-contains.false) refl, refl)
