use Rattle.pass_steps.specs.Passes.{state_in}
use Rattle.pass_steps.proofs.CutLemmas.{cuts_seen}
use Rattle.pass_steps.proofs.seen.copy_seen.Goals as goal

pub cut_as-requires-clause-cut : goal.cut_as-requires-clause-cut
cut_as-requires-clause-cut c =
    let v = c.args.pass.now.account.me.0 in
    let p = c.args.pass.now.number in
    cuts_seen v p (state_in v p) c.requires.sight.has
