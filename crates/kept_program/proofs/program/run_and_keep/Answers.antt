use Rattle.command_words.specs.Views.{run_request}
use Rattle.kept_run.specs.RunKeeper.Keeping.{acknowledged_on}
use Rattle.kept_program.proofs.RunLemmas.{kept_ends, unkept_ends}
use Rattle.kept_program.proofs.program.run_and_keep.Goals as goal

pub returns-in-Ok : goal.returns-in-Ok
returns-in-Ok g c =
    kept_ends (acknowledged_on g.K.Disk.moment g.K.Disk.may_leave g.K.Disk.left_since c.prepare_kept.new.disk) (run_request c.args.words.now) c.args.name.now (g.D.Desk.files c.args.desk.now) c.in-Ok.prepared c.in-Ok.ensures.prepared
    c.write_and_say-outcome.result (g.D.Desk.files c.prepare_kept.new.desk) (g.D.Desk.files c.write_and_say-outcome.new.desk) c.args.left.now c.hand_out.new.left (g.K.Disk.state c.args.disk.now) (g.K.Disk.state c.prepare_kept.new.disk)
    c.in-Ok.ensures.ok c.write_and_say-outcome.ensures c.hand_out.ensures c.in-Ok.ensures.stand

pub returns-in-Err : goal.returns-in-Err
returns-in-Err g c =
    unkept_ends (acknowledged_on g.K.Disk.moment g.K.Disk.may_leave g.K.Disk.left_since c.prepare_kept.new.disk) (run_request c.args.words.now) c.args.name.now c.blamed_by.result.now (g.D.Desk.files c.args.desk.now)
    (g.D.Desk.files c.prepare_kept.new.desk) (g.D.Desk.files c.say_stop.new.desk) c.args.left.now (g.K.Disk.state c.args.disk.now) (g.K.Disk.state c.prepare_kept.new.disk) c.in-Err.outcome c.in-Err.ensures.refused c.blamed_by.ensures c.say_stop.ensures
