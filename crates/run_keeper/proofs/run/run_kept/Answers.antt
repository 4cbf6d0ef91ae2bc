use Rattle.std.proofs.Common.{sym, subst}
use Rattle.graph_model.specs.Legal.{IsLegal}
use Rattle.job_runner.proofs.RunLemmas.{new_under_way}
use Rattle.run_keeper.proofs.KeptLemmas.{kept_longer, on_err}
use Rattle.run_keeper.proofs.StopLemmas.{stops_unkept, stops_behind}
use Rattle.run_keeper.proofs.run.run_kept.Goals as goal

pub returns-clause-kept : goal.returns-clause-kept
returns-clause-kept g c = λ commits rest same kept.
    let core = g.E.StepEngine.core c.args.engine.now in
    let new = c.requires.new.1 in
    let legal : IsLegal core.kind core.journal = subst (λ k. IsLegal k core.journal) (sym new.kind) (new_under_way c.requires.new.0 core c.args.jobs.now new).state.transactions.legal in
    c.in_ok-take_turns.ensures.kept
    (kept_longer g.K.Disk.moment g.K.Disk.may_leave g.K.Disk.left_since g.K.Disk.state core.kind core.journal c.journal.result.now commits rest c.args.keeper.now.file c.keep.new.self.file c.args.disk.now c.keep.new.disk
    c.journal.ensures same legal c.in_ok-keep.ensures.kept kept)

pub returns-in_err-keep-clause-still : goal.returns-in_err-keep-clause-still
returns-in_err-keep-clause-still g c =
    let core = g.E.StepEngine.core c.args.engine.now in
    let new = c.requires.new.1 in
    let legal : IsLegal core.kind core.journal = subst (λ k. IsLegal k core.journal) (sym new.kind) (new_under_way c.requires.new.0 core c.args.jobs.now new).state.transactions.legal in
    on_err _ (stops_unkept g.K.Disk.moment g.K.Disk.may_leave g.K.Disk.left_since g.K.Disk.state c.args.schedule.now core c.args.jobs.now c.journal.result.now c.args.keeper.now.file c.keep.new.self.file c.args.disk.now c.keep.new.disk
    c.journal.ensures legal c.in_err-keep.ensures.still)

pub returns-in_err-take_turns-clause-still : goal.returns-in_err-take_turns-clause-still
returns-in_err-take_turns-clause-still g c =
    let core = g.E.StepEngine.core c.args.engine.now in
    let last = g.E.StepEngine.core c.take_turns.new.engine in
    let new = c.requires.new.1 in
    let legal : IsLegal core.kind core.journal = subst (λ k. IsLegal k core.journal) (sym new.kind) (new_under_way c.requires.new.0 core c.args.jobs.now new).state.transactions.legal in
    on_err _ (stops_behind g.K.Disk.moment g.K.Disk.may_leave g.K.Disk.left_since g.K.Disk.state c.args.schedule.now core c.args.jobs.now c.journal.result.now last.journal c.args.keeper.now.file c.keep.new.self.file
    c.take_turns.new.keeper.file.count c.args.disk.now c.keep.new.disk c.take_turns.new.disk c.journal.ensures legal c.in_ok-keep.ensures.kept c.in_err-take_turns.ensures.still)
