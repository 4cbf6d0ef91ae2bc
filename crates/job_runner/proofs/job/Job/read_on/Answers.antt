use Rattle.std.proofs.Common.{◌≡◌, ◌∙◌, ◌++◌, ◌∷◌, [], length, ap, slice_index_or}
use Rattle.std.specs.Prelude.{Some, None}
use Rattle.line_runner.specs.declared.answering.LineTurn.TheVariants.{Scanning, Answering}
use Rattle.line_runner.specs.Phases.{image_behind}
use Rattle.line_runner.specs.Turns.{Calls, calls}
use Rattle.job_runner.specs.Progress.{Progress, listed_table}
use Rattle.job_runner.proofs.JobLemmas.{may_here, took_here, nothing_wanted}
use Rattle.job_runner.proofs.job.Job.read_on.Goals as goal

pub take_line-requires-clause-may : goal.take_line-requires-clause-may
take_line-requires-clause-may g c κs within =
    let job = c.args.self.now in
    let e : Calls g.row.E.Denot = calls g.E.Engine.account g.E.Engine.did_begin g.E.Engine.did_write g.E.Engine.did_read g.E.Engine.did_commit g.E.Engine.did_abort in
    let command = c.index-as_slice-len.result in
    let fields = c.self.view_is in
    let at : command ≡ slice_index_or job.commands (length job.answers) command =
    c.index-as_slice-len.is ∙ (λ i. slice_index_or ((c.as_slice.ensures ∙ ap (λ (x : Progress). x.commands) fields) i) ((c.len.ensures.len ∙ ap length c.reserve.ensures.kept ∙ ap (λ (x : Progress). length x.answers) fields) i) command) in
    may_here e c.args.engine.now job c.requires.going c.requires.ready command at c.self.inside.phase c.take-reading.result (ap (λ (x : Progress). x.phase) fields) (c.take-reading.ensures.value ∙ ap (λ (x : Progress). x.reading) fields)

pub returns-in-Scanning-clause-ok : goal.returns-in-Scanning-clause-ok
returns-in-Scanning-clause-ok g c =
    let job = c.args.self.now in
    let e : Calls g.row.E.Denot = calls g.E.Engine.account g.E.Engine.did_begin g.E.Engine.did_write g.E.Engine.did_read g.E.Engine.did_commit g.E.Engine.did_abort in
    let command = c.index-as_slice-len.result in
    let fields = c.self.view_is in
    let at : command ≡ slice_index_or job.commands (length job.answers) command =
    c.index-as_slice-len.is ∙ (λ i. slice_index_or ((c.as_slice.ensures ∙ ap (λ (x : Progress). x.commands) fields) i) ((c.len.ensures.len ∙ ap length c.reserve.ensures.kept ∙ ap (λ (x : Progress). length x.answers) fields) i) command) in
    took_here e c.args.engine.now job c.requires.going c.requires.ready command at c.self.inside.phase c.take-reading.result (ap (λ (x : Progress). x.phase) fields) (c.take-reading.ensures.value ∙ ap (λ (x : Progress). x.reading) fields)
    c.take_line.new.engine c.keep.new.self c.in_ok-reading.field-0 (Scanning c.in-Scanning.reading) c.in-Scanning.is c.in_ok-reading.ensures.takes c.take_line.new.image c.in_ok-reading.ensures.kept
    (c.keep.ensures ∙ (λ i. record {
      number = (fields i).number;
      commands = (fields i).commands;
      answers = (c.reserve.ensures.kept ∙ ap (λ (x : Progress). x.answers) fields) i;
      tables = (c.reserve-2.ensures.kept ∙ ap (λ (x : Progress). x.tables) fields) i;
      phase = (fields i).phase;
      reading = Some c.in-Scanning.reading;
      image = c.take_line.new.image;
    }))

pub returns-in-Answering-clause-ok : goal.returns-in-Answering-clause-ok
returns-in-Answering-clause-ok g c =
    let job = c.args.self.now in
    let e : Calls g.row.E.Denot = calls g.E.Engine.account g.E.Engine.did_begin g.E.Engine.did_write g.E.Engine.did_read g.E.Engine.did_commit g.E.Engine.did_abort in
    let command = c.index-as_slice-len.result in
    let fields = c.self.view_is in
    let at : command ≡ slice_index_or job.commands (length job.answers) command =
    c.index-as_slice-len.is ∙ (λ i. slice_index_or ((c.as_slice.ensures ∙ ap (λ (x : Progress). x.commands) fields) i) ((c.len.ensures.len ∙ ap length c.reserve.ensures.kept ∙ ap (λ (x : Progress). length x.answers) fields) i) command) in
    let given = c.in-Answering.given in
    took_here e c.args.engine.now job c.requires.going c.requires.ready command at c.self.inside.phase c.take-reading.result (ap (λ (x : Progress). x.phase) fields) (c.take-reading.ensures.value ∙ ap (λ (x : Progress). x.reading) fields)
    c.take_line.new.engine c.keep-in-Answering.new.self c.in_ok-reading.field-0 (Answering given) c.in-Answering.is c.in_ok-reading.ensures.takes c.take_line.new.image c.in_ok-reading.ensures.kept
    (c.keep-in-Answering.ensures ∙ (λ i. record {
      number = (fields i).number;
      commands = (fields i).commands;
      answers = (c.push_answer-self-inside.ensures.answers ∙ ap (λ xs. xs ++ given.answer ∷ []) (c.reserve.ensures.kept ∙ ap (λ (x : Progress). x.answers) fields)) i;
      tables = (c.push_answer-self-inside.ensures.tables ∙ ap (λ xs. xs ++ listed_table given.table) (c.reserve-2.ensures.kept ∙ ap (λ (x : Progress). x.tables) fields)) i;
      phase = c.push_answer-self-inside.ensures.phase i;
      reading = None;
      image = (c.kept_behind-image.ensures ∙ ap (λ (x : Progress). image_behind x.phase given c.take_line.new.image) fields) i;
    }))

pub returns-in_err-reserve-clause-err : goal.returns-in_err-reserve-clause-err
returns-in_err-reserve-clause-err g c =
    let e : Calls g.row.E.Denot = calls g.E.Engine.account g.E.Engine.did_begin g.E.Engine.did_write g.E.Engine.did_read g.E.Engine.did_commit g.E.Engine.did_abort in
    let fields = c.self.view_is in
    let next : Progress = record {
      number = c.self.inside.number;
      commands = c.self.inside.script;
      answers = c.reserve.new.self.items;
      tables = c.self.inside.tables.items;
      phase = c.self.inside.phase;
      reading = c.take-reading.new.self;
      image = c.take-image.new.self;
    } in
    let same : next ≡ record c.args.self.now { reading = None; image = None } = (λ i. record {
      number = (fields i).number;
      commands = (fields i).commands;
      answers = (c.reserve.ensures.kept ∙ ap (λ (x : Progress). x.answers) fields) i;
      tables = (fields i).tables;
      phase = (fields i).phase;
      reading = c.take-reading.ensures.after i;
      image = c.take-image.ensures.after i;
    }) in
    nothing_wanted e c.args.engine.now c.from_residual.result (next ≡ record c.args.self.now { reading = None; image = None }) same

pub returns-in_err-reserve-2-clause-err : goal.returns-in_err-reserve-2-clause-err
returns-in_err-reserve-2-clause-err g c =
    let e : Calls g.row.E.Denot = calls g.E.Engine.account g.E.Engine.did_begin g.E.Engine.did_write g.E.Engine.did_read g.E.Engine.did_commit g.E.Engine.did_abort in
    let fields = c.self.view_is in
    let next : Progress = record {
      number = c.self.inside.number;
      commands = c.self.inside.script;
      answers = c.reserve.new.self.items;
      tables = c.reserve-2.new.self.items;
      phase = c.self.inside.phase;
      reading = c.take-reading.new.self;
      image = c.take-image.new.self;
    } in
    let same : next ≡ record c.args.self.now { reading = None; image = None } = (λ i. record {
      number = (fields i).number;
      commands = (fields i).commands;
      answers = (c.reserve.ensures.kept ∙ ap (λ (x : Progress). x.answers) fields) i;
      tables = (c.reserve-2.ensures.kept ∙ ap (λ (x : Progress). x.tables) fields) i;
      phase = (fields i).phase;
      reading = c.take-reading.ensures.after i;
      image = c.take-image.ensures.after i;
    }) in
    nothing_wanted e c.args.engine.now c.from_residual-in_err-reserve-2.result (next ≡ record c.args.self.now { reading = None; image = None }) same
