use Rattle.row_table.proofs.WalkLemmas.{drop_on, drop_end, none_is}
use Rattle.row_table.proofs.checks.drop_cause.Goals as goal

pub ask-preserved-then-is_none : goal.ask-preserved-then-is_none
ask-preserved-then-is_none g c = rw c.combined-cause.ensures
    (drop_on c.args.chains.now (g.S.States.knowledge c.args.states.now) c.args.snapshot.now c.args.base c.args.head (g.S.States.knowledge c.ask.states) c.ask.value c.ask.link c.ask.cause c.ask.invariant (g.S.States.knowledge c.cause_of.new.states)
    c.in-Some.key c.record-undo.result c.cause_of.result c.in-Some.is c.record-undo.ensures.list c.record-undo.ensures.next (none_is c.ask.value _ c.is_none.ensures c.if-is_none.true) c.cause_of.ensures.grows c.cause_of.ensures.checked)

pub returns-clause-checked : goal.returns-clause-checked
returns-clause-checked g c =
    drop_end c.args.chains.now (g.S.States.knowledge c.args.states.now) c.args.snapshot.now c.args.base c.args.head (g.S.States.knowledge c.ask.states) c.ask.value c.ask.link c.ask.cause c.ask.invariant c.in_default.is
