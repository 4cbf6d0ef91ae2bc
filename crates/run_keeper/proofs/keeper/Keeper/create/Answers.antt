use Rattle.run_keeper.proofs.KeptLemmas.{first_kept}
use Rattle.run_keeper.proofs.keeper.Keeper.create.Goals as goal

pub returns-clause-kept : goal.returns-clause-kept
returns-clause-kept g c =
    first_kept g.K.Disk.moment g.K.Disk.may_leave g.K.Disk.left_since g.K.Disk.state c.args.kind c.in_ok-file.file c.create.new.disk c.in_ok-file.ensures.settled
    c.files_stand_for_their_commits.ensures (λ image left. g.met.K.Disk.only_now _ image left)
