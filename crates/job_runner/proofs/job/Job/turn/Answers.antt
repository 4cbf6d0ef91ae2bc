use Rattle.line_runner.specs.Turns.{Calls, calls, AreByAccount}
use Rattle.job_runner.specs.Progress.{TakesTurnOn}
use Rattle.job_runner.proofs.JobLemmas.{comes_to, may_end, comes_back}
use Rattle.job_runner.proofs.job.Job.turn.Goals as goal

pub end_turn-requires : goal.end_turn-requires
end_turn-requires g c =
    let e : Calls g.row.E.Denot = calls g.E.Engine.account g.E.Engine.did_begin g.E.Engine.did_write g.E.Engine.did_read g.E.Engine.did_commit g.E.Engine.did_abort in
    let by : AreByAccount e = record {
      begins_by = λ s t r d. (let m = g.met.E.Engine.begins s t r d in (m.0, m.1.legal));
      writes_by = λ s t w r d. (let m = g.met.E.Engine.wrote s t w r d in (m.0, m.1.legal));
      reads_by = λ s t d. (let m = g.met.E.Engine.reads s t d in (m.0, m.1.legal));
      commits_by = λ s t r d. (let m = g.met.E.Engine.commits s t r d in (m.0, m.1.legal));
      aborts_by = λ s t d. (let m = g.met.E.Engine.aborts s t d in (m.0, m.1.legal));
    } in
    let old = c.args.engine.now in
    let job = c.args.self.now in
    let t = c.take_turn-took in
    may_end e (TakesTurnOn e old job) old t.new.engine job t.new.self by c.requires.ready.phase_is t.result t.ensures.err

pub returns-clause-took : goal.returns-clause-took
returns-clause-took g c =
    let e : Calls g.row.E.Denot = calls g.E.Engine.account g.E.Engine.did_begin g.E.Engine.did_write g.E.Engine.did_read g.E.Engine.did_commit g.E.Engine.did_abort in
    let old = c.args.engine.now in
    let job = c.args.self.now in
    let t = c.take_turn-took in
    comes_to e (TakesTurnOn e old job) old t.new.engine job t.new.self t.result t.ensures.ok t.ensures.err c.end_turn.result c.end_turn.new.self c.end_turn.new.engine c.end_turn.ensures

pub returns-clause-rolled_back : goal.returns-clause-rolled_back
returns-clause-rolled_back g c =
    let e : Calls g.row.E.Denot = calls g.E.Engine.account g.E.Engine.did_begin g.E.Engine.did_write g.E.Engine.did_read g.E.Engine.did_commit g.E.Engine.did_abort in
    let by : AreByAccount e = record {
      begins_by = λ s t r d. (let m = g.met.E.Engine.begins s t r d in (m.0, m.1.legal));
      writes_by = λ s t w r d. (let m = g.met.E.Engine.wrote s t w r d in (m.0, m.1.legal));
      reads_by = λ s t d. (let m = g.met.E.Engine.reads s t d in (m.0, m.1.legal));
      commits_by = λ s t r d. (let m = g.met.E.Engine.commits s t r d in (m.0, m.1.legal));
      aborts_by = λ s t d. (let m = g.met.E.Engine.aborts s t d in (m.0, m.1.legal));
    } in
    let old = c.args.engine.now in
    let job = c.args.self.now in
    let t = c.take_turn-took in
    comes_back e (TakesTurnOn e old job) old t.new.engine job t.new.self by c.requires.ready.phase_is c.end_turn.result c.end_turn.new.self c.end_turn.new.engine
    (comes_to e (TakesTurnOn e old job) old t.new.engine job t.new.self t.result t.ensures.ok t.ensures.err c.end_turn.result c.end_turn.new.self c.end_turn.new.engine c.end_turn.ensures)
