use Rattle.std.proofs.Common.{◌≡◌, ◌∙◌, ◌++◌, ◌∷◌, [], length, sym, ap, subst, slice_index_or}
use Rattle.std.specs.Prelude.{None}
use Rattle.line_runner.specs.Phases.{IsPhase, image_behind}
use Rattle.line_runner.specs.Turns.{Calls, calls}
use Rattle.job_runner.specs.Progress.{Progress, listed_table}
use Rattle.job_runner.proofs.JobLemmas.{is_run, nothing_wanted, ran_here, runs_here}
use Rattle.job_runner.proofs.job.Job.run_kernel.Goals as goal

pub returns-in_err-reserve-clause-err : goal.returns-in_err-reserve-clause-err
returns-in_err-reserve-clause-err g c =
    let e : Calls g.row.E.Denot = calls g.E.Engine.account g.E.Engine.did_begin g.E.Engine.did_write g.E.Engine.did_read g.E.Engine.did_commit g.E.Engine.did_abort in
    let fields = c.self.view_is in
    let next : Progress = record {
      number = c.self.inside.number;
      commands = c.self.inside.script;
      answers = c.reserve.new.self.items;
      tables = c.self.inside.tables.items;
      phase = c.self.inside.phase;
      reading = None;
      image = c.take-image.new.self;
    } in
    let same : next ≡ record c.args.self.now { reading = None; image = None } = (λ i. record {
      number = (fields i).number;
      commands = (fields i).commands;
      answers = (c.reserve.ensures.kept ∙ ap (λ (x : Progress). x.answers) fields) i;
      tables = (fields i).tables;
      phase = (fields i).phase;
      reading = None;
      image = c.take-image.ensures.after i;
    }) in
    nothing_wanted e c.args.engine.now c.from_residual.result (next ≡ record c.args.self.now { reading = None; image = None }) same

pub returns-in_err-reserve-2-clause-err : goal.returns-in_err-reserve-2-clause-err
returns-in_err-reserve-2-clause-err g c =
    let e : Calls g.row.E.Denot = calls g.E.Engine.account g.E.Engine.did_begin g.E.Engine.did_write g.E.Engine.did_read g.E.Engine.did_commit g.E.Engine.did_abort in
    let fields = c.self.view_is in
    let next : Progress = record {
      number = c.self.inside.number;
      commands = c.self.inside.script;
      answers = c.reserve.new.self.items;
      tables = c.reserve-2.new.self.items;
      phase = c.self.inside.phase;
      reading = None;
      image = c.take-image.new.self;
    } in
    let same : next ≡ record c.args.self.now { reading = None; image = None } = (λ i. record {
      number = (fields i).number;
      commands = (fields i).commands;
      answers = (c.reserve.ensures.kept ∙ ap (λ (x : Progress). x.answers) fields) i;
      tables = (c.reserve-2.ensures.kept ∙ ap (λ (x : Progress). x.tables) fields) i;
      phase = (fields i).phase;
      reading = None;
      image = c.take-image.ensures.after i;
    }) in
    nothing_wanted e c.args.engine.now c.from_residual-in_err-reserve-2.result (next ≡ record c.args.self.now { reading = None; image = None }) same

pub unreachable-requires : goal.unreachable-requires
unreachable-requires g c =
    let job = c.args.self.now in
    let old = c.args.engine.now in
    let e : Calls g.row.E.Denot = calls g.E.Engine.account g.E.Engine.did_begin g.E.Engine.did_write g.E.Engine.did_read g.E.Engine.did_commit g.E.Engine.did_abort in
    let command = c.index-as_slice-len.result in
    let fields = c.self.view_is in
    let at : command ≡ slice_index_or job.commands (length job.answers) command =
    c.index-as_slice-len.is ∙ (λ i. slice_index_or ((c.as_slice.ensures ∙ ap (λ (x : Progress). x.commands) fields) i) ((c.len.ensures.len ∙ ap length c.reserve.ensures.kept ∙ ap (λ (x : Progress). length x.answers) fields) i) command) in
    let runs = runs_here e old job c.requires.going c.requires.ready command at c.requires.kernel in
    let run = is_run command runs.1 in
    c.in_default.not-Run run.0 run.1 run.2

pub run_at_once-requires-clause-current : goal.run_at_once-requires-clause-current
run_at_once-requires-clause-current g c κs within =
    let job = c.args.self.now in
    let old = c.args.engine.now in
    let e : Calls g.row.E.Denot = calls g.E.Engine.account g.E.Engine.did_begin g.E.Engine.did_write g.E.Engine.did_read g.E.Engine.did_commit g.E.Engine.did_abort in
    let command = c.index-as_slice-len.result in
    let fields = c.self.view_is in
    let at : command ≡ slice_index_or job.commands (length job.answers) command =
    c.index-as_slice-len.is ∙ (λ i. slice_index_or ((c.as_slice.ensures ∙ ap (λ (x : Progress). x.commands) fields) i) ((c.len.ensures.len ∙ ap length c.reserve.ensures.kept ∙ ap (λ (x : Progress). length x.answers) fields) i) command) in
    let runs = runs_here e old job c.requires.going c.requires.ready command at c.requires.kernel in
    subst (λ p. IsPhase p (e.account old).start) runs.0 c.requires.ready.phase_is

pub returns-clause-ok : goal.returns-clause-ok
returns-clause-ok g c =
    let job = c.args.self.now in
    let old = c.args.engine.now in
    let e : Calls g.row.E.Denot = calls g.E.Engine.account g.E.Engine.did_begin g.E.Engine.did_write g.E.Engine.did_read g.E.Engine.did_commit g.E.Engine.did_abort in
    let command = c.index-as_slice-len.result in
    let fields = c.self.view_is in
    let at : command ≡ slice_index_or job.commands (length job.answers) command =
    c.index-as_slice-len.is ∙ (λ i. slice_index_or ((c.as_slice.ensures ∙ ap (λ (x : Progress). x.commands) fields) i) ((c.len.ensures.len ∙ ap length c.reserve.ensures.kept ∙ ap (λ (x : Progress). length x.answers) fields) i) command) in
    let runs = runs_here e old job c.requires.going c.requires.ready command at c.requires.kernel in
    let given = c.in_ok-given.given in
    let image = c.run_at_once.new.image in
    ran_here e old job c.requires.going c.requires.ready command at runs.0 c.in-Run.kernel c.in-Run.file c.in-Run.is c.run_at_once.new.engine c.keep.new.self given c.in_ok-given.ensures.answers image c.in_ok-given.ensures.kept
    (c.keep.ensures ∙ (λ i. record {
      number = (fields i).number;
      commands = (fields i).commands;
      answers = (c.push_answer-self-inside.ensures.answers ∙ ap (λ xs. xs ++ given.answer ∷ []) (c.reserve.ensures.kept ∙ ap (λ (x : Progress). x.answers) fields)) i;
      tables = (c.push_answer-self-inside.ensures.tables ∙ ap (λ xs. xs ++ listed_table given.table) (c.reserve-2.ensures.kept ∙ ap (λ (x : Progress). x.tables) fields)) i;
      phase = c.push_answer-self-inside.ensures.phase i;
      reading = None;
      image = (c.kept_behind-image.ensures ∙ ap (λ p. image_behind p given image) (sym runs.0)) i;
    }))
