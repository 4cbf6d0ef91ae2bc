use Rattle.std.proofs.Common.{◌∙◌, subst}
use Rattle.script_lang.specs.Early.{IsEarly}
use Rattle.script_lang.proofs.EarlyLemmas.{zip_more}
use Rattle.script_lang.proofs.early.read_each.Goals as goal

pub texts-preserved : goal.texts-preserved
texts-preserved c =
    rw c.in_ok-push.ensures.items
    (zip_more (IsEarly c.args.taken.now) c.args.texts.now c.texts.text-index c.text-item.result c.texts.early.items c.read_alone.result c.texts-test.true c.texts.invariant
    (subst (λ text. IsEarly c.args.taken.now text c.read_alone.result) (c.as_slice.ensures ∙ c.text-item.is) c.read_alone.ensures))
