use Rattle.command_words.specs.Views.{run_request}
use Rattle.kept_run.specs.SourceRun.Parsing.{meaning_of}
use Rattle.kept_run.specs.RunKeeper.Keeping.{acknowledged_on}
use Rattle.kept_program.proofs.RunLemmas.{kept_prepared}
use Rattle.kept_program.proofs.prepare.prepare_kept.Goals as goal

pub returns-in-Ok-make_kept-clause-prepared : goal.returns-in-Ok-make_kept-clause-prepared
returns-in-Ok-make_kept-clause-prepared g c =
    kept_prepared (acknowledged_on g.K.Disk.moment g.K.Disk.may_leave g.K.Disk.left_since c.make_kept.new.disk) (run_request c.args.words.now) (g.D.Desk.files c.args.desk.now) (meaning_of c.in-Ok.input) c.in-Ok-make_kept.prepared
    c.in-Ok.ensures.accepted c.in-Ok-make_kept.ensures.made
