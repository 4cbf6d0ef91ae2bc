use Rattle.std.proofs.lemmas.Result.{IfOk-weaker}
use Rattle.command_words.proofs.AppLemmas.{one_more}
use Rattle.command_words.proofs.app.recover_command.Goals as goal

pub returns : goal.returns
returns c =
    IfOk-weaker c.arg-2.result _ _ (λ command adds.
    (one_more _ command _ _ _ adds (one_more _ _ _ _ _ c.in_ok-arg.ensures c.new.ensures.app
    c.required.ensures.local c.required.ensures.rule)
    c.required-2.ensures.local c.required-2.ensures.rule))
    c.arg-2.ensures
