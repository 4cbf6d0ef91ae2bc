use Rattle.std.proofs.Common.{suc, sym, ◌∙◌}
use Rattle.job_runner.specs.LineRunner.Turns.{Calls, calls, AreByAccount}
use Rattle.thread_runner.proofs.TurnLemmas.{turns_more, took_by, stays_ready, turn_pass, turn_closed, left_fewer}
use Rattle.thread_runner.proofs.driver.run_job.Goals as goal

pub turns-preserved : goal.turns-preserved
turns-preserved g c =
    let e : Calls g.row.E.Denot = calls g.E.Engine.account g.E.Engine.did_begin g.E.Engine.did_write g.E.Engine.did_read g.E.Engine.did_commit g.E.Engine.did_abort in
    let by : AreByAccount e = record {
      begins_by = λ s t r d. (let m = g.met.E.Engine.begins s t r d in (m.0, m.1.legal));
      writes_by = λ s t w r d. (let m = g.met.E.Engine.wrote s t w r d in (m.0, m.1.legal));
      reads_by = λ s t d. (let m = g.met.E.Engine.reads s t d in (m.0, m.1.legal));
      commits_by = λ s t r d. (let m = g.met.E.Engine.commits s t r d in (m.0, m.1.legal));
      aborts_by = λ s t d. (let m = g.met.E.Engine.aborts s t d in (m.0, m.1.legal));
    } in
    let took = c.turn_parts in
    let now = g.E.Engine.account c.turns.engine in
    let going = sym c.has_ended.ensures ∙ c.turns-test.true in
    let ready = c.turns.invariant.ready going in
    record {
      ran = (
        suc c.turns.invariant.ran.0,
        turns_more c.turns.invariant.ran.0 (g.E.Engine.account c.args.engine.now) c.args.job.now c.turns.job took.new.self now (g.E.Engine.account took.new.engine) c.turns.invariant.ran.1 going took.result
            (took_by e by c.turns.engine c.turns.job ready took.result took.new.self took.new.engine took.ensures.took),
      );
      pass = turn_pass e by c.turns.engine c.turns.job ready going took.new.self took.new.engine took.result took.ensures.took ∙ c.turns.invariant.pass;
      closed = λ was. turn_closed e by c.turns.engine c.turns.job ready going took.new.self took.new.engine took.result took.ensures.took;
      ready = stays_ready e by c.turns.engine c.turns.job ready going took.new.self took.new.engine took.result took.ensures.took;
    }

pub turns-smaller : goal.turns-smaller
turns-smaller g c =
    let e : Calls g.row.E.Denot = calls g.E.Engine.account g.E.Engine.did_begin g.E.Engine.did_write g.E.Engine.did_read g.E.Engine.did_commit g.E.Engine.did_abort in
    let by : AreByAccount e = record {
      begins_by = λ s t r d. (let m = g.met.E.Engine.begins s t r d in (m.0, m.1.legal));
      writes_by = λ s t w r d. (let m = g.met.E.Engine.wrote s t w r d in (m.0, m.1.legal));
      reads_by = λ s t d. (let m = g.met.E.Engine.reads s t d in (m.0, m.1.legal));
      commits_by = λ s t r d. (let m = g.met.E.Engine.commits s t r d in (m.0, m.1.legal));
      aborts_by = λ s t d. (let m = g.met.E.Engine.aborts s t d in (m.0, m.1.legal));
    } in
    let going = sym c.has_ended.ensures ∙ c.turns-test.true in
    left_fewer e by c.turns.engine c.turns.job (c.turns.invariant.ready going) going c.turn_parts.new.self c.turn_parts.new.engine c.turn_parts.result c.turn_parts.ensures.took
