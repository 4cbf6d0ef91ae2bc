use Rattle.std.proofs.Common.{sym, ◌∙◌, subst}
use Rattle.std.specs.Prelude.{slice_set}
use Rattle.std.specs.List.{AllZip}
use Rattle.script_lang.specs.Early.{IsEarly}
use Rattle.source_run.proofs.InputLemmas.{early_of, early_without}
use Rattle.source_run.proofs.input.take_read.Goals as goal

pub returns-in-Some-clause-read : goal.returns-in-Some-clause-read
returns-in-Some-clause-read c = λ first now texts text none all lt there right.
    subst (λ names. IsEarly names text c.take.result) (sym (right c.if-not-is_right.false))
    (early_of first texts c.args.early.now.items c.args.place text none c.take.result c.in-Some.read.now all lt there
    (c.take.ensures.value ∙ c.in-Some.ensures.value))

pub returns-in-Some-clause-left : goal.returns-in-Some-clause-left
returns-in-Some-clause-left c = λ first texts all.
    subst (λ read. AllZip (IsEarly first) texts (slice_set c.args.early.now.items c.args.place read)) (sym c.take.ensures.after)
    (early_without first texts c.args.early.now.items c.args.place all)
