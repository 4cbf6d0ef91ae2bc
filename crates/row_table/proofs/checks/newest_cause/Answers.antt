use Rattle.std.proofs.Common.{sym, subst, List}
use Rattle.std.specs.Prelude.{take}
use Rattle.head_map.specs.UndoChain.Records.{UndoRecord, pairs_of}
use Rattle.head_map.proofs.UndoChain.ListLemmas.{at_link}
use Rattle.row_table.specs.Checks.{IsChecked}
use Rattle.row_table.proofs.WalkLemmas.{checked_one}
use Rattle.row_table.proofs.checks.newest_cause.Goals as goal

pub returns-in-Some-clause-checked : goal.returns-in-Some-clause-checked
returns-in-Some-clause-checked g c = λ base.
    let was = at_link c.args.chains.now c.args.head c.in-Some.key _ c.in-Some.is c.record.ensures.list in
    subst (λ (us : List UndoRecord). IsChecked (g.S.States.knowledge c.args.states.now) (g.S.States.knowledge c.cause_of.new.states) c.args.snapshot.now (take 1 (pairs_of base us)) c.cause_of.result) (sym was)
    (checked_one _ _ _ c.record.result base _ c.cause_of.ensures.checked)
