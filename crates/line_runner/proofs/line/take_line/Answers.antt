use Rattle.std.proofs.Common.{refl}
use Rattle.run_model.specs.declared.command.Command.TheVariants as commands
use Rattle.line_runner.specs.Turns.{Calls, calls}
use Rattle.line_runner.proofs.TurnLemmas.{calm_of, takes_by, skips_turn}
use Rattle.line_runner.proofs.line.take_line.Goals as goal
use Rattle.line_runner.proofs.line.take_line.Goals.{in-Begin+in_ok-given-in-Begin, in-Commit, in-Abort, in-Write+in_ok-given-in-Write}

pub returns-in-Skipping-clause-takes : goal.returns-in-Skipping-clause-takes
returns-in-Skipping-clause-takes g c =
    let e : Calls g.row.E.Denot = calls g.E.Engine.account g.E.Engine.did_begin g.E.Engine.did_write g.E.Engine.did_read g.E.Engine.did_commit g.E.Engine.did_abort in
    skips_turn e c.args.engine.now c.args.phase c.args.reading c.args.command.now c.in-Skipping.is c.skip.result c.skip.ensures

pub returns : goal.returns
returns g c =
    let e : Calls g.row.E.Denot = calls g.E.Engine.account g.E.Engine.did_begin g.E.Engine.did_write g.E.Engine.did_read g.E.Engine.did_commit g.E.Engine.did_abort in
    let calm = calm_of c.args.phase c.in_default.not-Skipping in
    record {
      takes = elim c.match-command.branch [
        | in-Begin+in_ok-given-in-Begin w ↦ takes_by e c.args.engine.now c.args.phase c.args.reading calm c.args.command.now commands.Begin w.in-Begin.is (λ _. refl) c.match-command.given w.in_ok-given-in-Begin.given w.given-is c.match-command.engine w.begin.new.engine w.engine-is w.in_ok-given-in-Begin.ensures.does
        | in-Commit w ↦ takes_by e c.args.engine.now c.args.phase c.args.reading calm c.args.command.now commands.Commit w.in-Commit.is (λ _. refl) c.match-command.given w.commit-given.result w.given-is c.match-command.engine w.commit-given.new.engine w.engine-is w.commit-given.ensures
        | in-Abort w ↦ takes_by e c.args.engine.now c.args.phase c.args.reading calm c.args.command.now commands.Abort w.in-Abort.is (λ _. refl) c.match-command.given w.abort-given.result w.given-is c.match-command.engine w.abort-given.new.engine w.engine-is (w.abort-given.ensures.answer, w.abort-given.ensures.did)
        | in-Write+in_ok-given-in-Write w ↦ takes_by e c.args.engine.now c.args.phase c.args.reading calm c.args.command.now (commands.Write w.in-Write.write) w.in-Write.is (λ _. refl) c.match-command.given w.in_ok-given-in-Write.given w.given-is c.match-command.engine w.make_write.new.engine w.engine-is w.in_ok-given-in-Write.ensures
      ];
      kept = c.requires.kept;
      err = tt;
    }
