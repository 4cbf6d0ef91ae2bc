use Rattle.std.proofs.Common.{◌≡◌, ◌∙◌, ◌++◌, ◌∷◌, [], length, sym, ap, slice_index_or}
use Rattle.std.specs.Prelude.{None}
use Rattle.line_runner.specs.declared.answering.LineTurn.TheVariants.{Answering}
use Rattle.line_runner.specs.Turns.{Calls, calls}
use Rattle.job_runner.specs.Progress.{Progress, listed_table}
use Rattle.job_runner.proofs.JobLemmas.{may_here, none_behind, call_here, took_here}
use Rattle.job_runner.proofs.job.Job.answer_line.Goals as goal

pub answer_call-requires-clause-may : goal.answer_call-requires-clause-may
answer_call-requires-clause-may g c =
    let job = c.args.self.now in
    let e : Calls g.row.E.Denot = calls g.E.Engine.account g.E.Engine.did_begin g.E.Engine.did_write g.E.Engine.did_read g.E.Engine.did_commit g.E.Engine.did_abort in
    let command = c.index-as_slice-len.result in
    let fields = c.self.view_is in
    let at : command ≡ slice_index_or job.commands (length job.answers) command =
    c.index-as_slice-len.is ∙ (λ i. slice_index_or ((c.as_slice.ensures ∙ ap (λ (x : Progress). x.commands) fields) i) ((c.len.ensures.len ∙ ap length c.reserve.ensures.kept ∙ ap (λ (x : Progress). length x.answers) fields) i) command) in
    may_here e c.args.engine.now job c.requires.going c.requires.ready command at c.self.inside.phase None (ap (λ (x : Progress). x.phase) fields) (sym c.requires.none.0)

pub answer_call-requires-clause-call : goal.answer_call-requires-clause-call
answer_call-requires-clause-call g c =
    let job = c.args.self.now in
    let e : Calls g.row.E.Denot = calls g.E.Engine.account g.E.Engine.did_begin g.E.Engine.did_write g.E.Engine.did_read g.E.Engine.did_commit g.E.Engine.did_abort in
    let command = c.index-as_slice-len.result in
    let fields = c.self.view_is in
    let at : command ≡ slice_index_or job.commands (length job.answers) command =
    c.index-as_slice-len.is ∙ (λ i. slice_index_or ((c.as_slice.ensures ∙ ap (λ (x : Progress). x.commands) fields) i) ((c.len.ensures.len ∙ ap length c.reserve.ensures.kept ∙ ap (λ (x : Progress). length x.answers) fields) i) command) in
    call_here e c.args.engine.now job c.requires.going c.requires.ready command at c.requires.call

pub returns-clause-ok : goal.returns-clause-ok
returns-clause-ok g c =
    let job = c.args.self.now in
    let e : Calls g.row.E.Denot = calls g.E.Engine.account g.E.Engine.did_begin g.E.Engine.did_write g.E.Engine.did_read g.E.Engine.did_commit g.E.Engine.did_abort in
    let command = c.index-as_slice-len.result in
    let fields = c.self.view_is in
    let at : command ≡ slice_index_or job.commands (length job.answers) command =
    c.index-as_slice-len.is ∙ (λ i. slice_index_or ((c.as_slice.ensures ∙ ap (λ (x : Progress). x.commands) fields) i) ((c.len.ensures.len ∙ ap length c.reserve.ensures.kept ∙ ap (λ (x : Progress). length x.answers) fields) i) command) in
    let given = c.in_ok-given.given in
    took_here e c.args.engine.now job c.requires.going c.requires.ready command at c.self.inside.phase None (ap (λ (x : Progress). x.phase) fields) (sym c.requires.none.0)
    c.answer_call.new.engine _ (Answering given) (Answering given) (λ i. Answering given) c.in_ok-given.ensures.answers None tt
    (λ i. record {
      number = (fields i).number;
      commands = (fields i).commands;
      answers = (c.push_answer-self-inside.ensures.answers ∙ ap (λ xs. xs ++ given.answer ∷ []) (c.reserve.ensures.kept ∙ ap (λ (x : Progress). x.answers) fields)) i;
      tables = (c.push_answer-self-inside.ensures.tables ∙ ap (λ xs. xs ++ listed_table given.table) (c.reserve-2.ensures.kept ∙ ap (λ (x : Progress). x.tables) fields)) i;
      phase = c.push_answer-self-inside.ensures.phase i;
      reading = (ap (λ (x : Progress). x.reading) fields ∙ c.requires.none.0) i;
      image = (ap (λ (x : Progress). x.image) fields ∙ c.requires.none.1 ∙ sym (none_behind job.phase given)) i;
    })
