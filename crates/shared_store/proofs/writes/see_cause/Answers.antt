use Rattle.std.proofs.Common.{◌∙◌, sym, subst}
use Rattle.pass_writes.specs.PassSteps.Passes.{state_of}
use Rattle.shared_store.specs.Writes.{IsNoted}
use Rattle.shared_store.proofs.writes.see_cause.Goals as goal

pub see_later-requires-clause-noted : goal.see_later-requires-clause-noted
see_later-requires-clause-noted g c =
    (subst (λ o. IsNoted c.args.write o (state_of c.args.pass.now.seats)) (sym c.named_stamp.ensures ∙ c.in-Some.is)
    c.requires.noted).0

pub see_later-requires-clause-behind : goal.see_later-requires-clause-behind
see_later-requires-clause-behind g c =
    (subst (λ o. IsNoted c.args.write o (state_of c.args.pass.now.seats)) (sym c.named_stamp.ensures ∙ c.in-Some.is)
    c.requires.noted).1
