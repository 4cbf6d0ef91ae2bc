use Rattle.std.proofs.Common.{sym, subst}
use Rattle.graph_model.specs.Legal.{IsLegal}
use Rattle.job_runner.specs.Runs.{Turns}
use Rattle.run_keeper.proofs.KeptLemmas.{kept_longer, on_err}
use Rattle.run_keeper.proofs.StopLemmas.{stuck, unkept}
use Rattle.run_keeper.proofs.run.take_kept_turn.Goals as goal

pub returns-clause-kept : goal.returns-clause-kept
returns-clause-kept g c =
    let old = g.E.StepEngine.core c.args.engine.now in
    let new = g.E.StepEngine.core c.take_turn.new.engine in
    let are = c.requires.under_way.1 in
    let turns : Turns old c.args.jobs.now c.args.number c.in_ok-ended.ended new c.take_turn.new.jobs = c.in_ok-ended.ensures.turns in
    let legal : IsLegal old.kind new.journal = subst (λ k. IsLegal k new.journal) (sym are.kind) (turns.keeps c.requires.under_way.0 are).state.transactions.legal in
    kept_longer g.K.Disk.moment g.K.Disk.may_leave g.K.Disk.left_since g.K.Disk.state old.kind new.journal c.journal.result.now old.journal (turns.journal).0 c.args.keeper.now.file c.keep.new.self.file c.args.disk.now c.keep.new.disk
    c.journal.ensures (turns.journal).1 legal c.in_ok-keep.ensures.kept

pub returns-in_err-keep-clause-still : goal.returns-in_err-keep-clause-still
returns-in_err-keep-clause-still g c =
    let old = g.E.StepEngine.core c.args.engine.now in
    let new = g.E.StepEngine.core c.take_turn.new.engine in
    let are = c.requires.under_way.1 in
    let turns : Turns old c.args.jobs.now c.args.number c.in_ok-ended.ended new c.take_turn.new.jobs = c.in_ok-ended.ensures.turns in
    let legal : IsLegal old.kind new.journal = subst (λ k. IsLegal k new.journal) (sym are.kind) (turns.keeps c.requires.under_way.0 are).state.transactions.legal in
    on_err _ (unkept g.K.Disk.moment g.K.Disk.may_leave g.K.Disk.left_since g.K.Disk.state old new c.args.jobs.now c.take_turn.new.jobs c.args.number c.args.keeper.now.file c.keep.new.self.file c.args.disk.now c.keep.new.disk
    c.in_ok-ended.ended c.journal.result.now turns c.journal.ensures legal c.in_err-keep.ensures.still)

pub returns-in_err-ended-clause-still : goal.returns-in_err-ended-clause-still
returns-in_err-ended-clause-still g c =
    let old = g.E.StepEngine.core c.args.engine.now in
    let new = g.E.StepEngine.core c.take_turn.new.engine in
    on_err _ (stuck g.K.Disk.moment g.K.Disk.may_leave g.K.Disk.left_since g.K.Disk.state old new c.args.jobs.now c.take_turn.new.jobs c.args.number c.args.keeper.now.file c.args.keeper.now.file c.args.disk.now c.args.disk.now
    c.in_err-ended.ensures.err)
