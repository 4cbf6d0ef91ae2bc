use Rattle.row_table.proofs.WalkLemmas.{touch_on}
use Rattle.row_table.proofs.checks.touch_cause.Goals as goal

pub ask_all-preserved : goal.ask_all-preserved
ask_all-preserved g c = rw c.combined-cause.ensures
    (touch_on c.args.chains.now (g.S.States.knowledge c.args.states.now) c.args.snapshot.now c.args.head (g.S.States.knowledge c.ask_all.states) (g.S.States.knowledge c.cause_of.new.states) c.ask_all.link c.ask_all.cause c.ask_all.invariant
    c.in-Some.key c.record-touch.result c.cause_of.result c.in-Some.is c.record-touch.ensures.list c.record-touch.ensures.next c.cause_of.ensures.grows c.cause_of.ensures.checked)
