use Rattle.pass_steps.specs.StoreRelation.Passes.{name_at}
use Rattle.pass_steps.specs.Passes.{state_of}
use Rattle.optimistic_read.proofs.AnswerLemmas.{run_is}
use Rattle.optimistic_read.proofs.scan.try_run.Goals as goal

pub returns-clause-run : goal.returns-clause-run
returns-clause-run c =
    let pass = c.args.pass.now in
    let st = state_of pass in
    run_is c.args.store.now.accounts.config st.seen st.start st.own (name_at pass.number st) pass.account.me.0
    c.try_block_run.new.seat.me.0 c.args.route.now.cell c.args.from c.args.until c.args.rows.now
    c.try_block_run.new.rows
    c.requires.ahead c.try_block_run.result
    (c.try_block_run.ensures.tried pass.number (state_of pass) c.requires.may.of.sight.has c.requires.may.opened)
