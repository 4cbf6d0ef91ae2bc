use Rattle.pass_steps.specs.Passes.{state_of}
use Rattle.optimistic_read.proofs.TryLemmas.{value_is}
use Rattle.optimistic_read.proofs.read.try_key.Goals as goal

pub returns-clause-value : goal.returns-clause-value
returns-clause-value c =
    let pass = c.args.pass.now in
    value_is c.args.store.now.accounts.config pass.number (state_of pass) pass.account.me.0 c.try_block.new.seat.me.0
    c.args.route.now.cell c.args.key c.try_block.result
    (c.try_block.ensures.tried pass.number (state_of pass) c.requires.may.of.sight.has c.requires.may.opened)
