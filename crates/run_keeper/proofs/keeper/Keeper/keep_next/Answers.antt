use Rattle.run_keeper.proofs.KeptLemmas.{entry_is, one_more, still_first, still_written, on_err}
use Rattle.run_keeper.proofs.keeper.Keeper.keep_next.Goals as goal

pub returns-clause-kept : goal.returns-clause-kept
returns-clause-kept g c = λ kind journal commits legal kept.
    let entry = entry_is kind journal _ c.args.commit.now legal c.in_ok-lay.ensures.fits in
    one_more g.K.Disk.moment g.K.Disk.may_leave g.K.Disk.left_since g.K.Disk.state kind commits c.args.commit.now c.args.self.now.file c.append.new.self c.args.disk.now c.append.new.disk kept
    (c.append.ensures.any_moment kind commits c.args.commit.now kept.settled entry c.in_ok-lay.ensures.bytes)
    (c.in_ok-append.ensures.acknowledged kind commits c.args.commit.now kept.settled entry c.in_ok-lay.ensures.bytes)
    c.files_stand_for_their_commits.ensures (λ image left. g.met.K.Disk.only_now _ image left)

pub returns-in_err-append-clause-still : goal.returns-in_err-append-clause-still
returns-in_err-append-clause-still g c =
    on_err _ (still_written g.K.Disk.moment g.K.Disk.may_leave g.K.Disk.left_since g.K.Disk.state c.args.commit.now c.args.self.now.file c.append.new.self c.args.disk.now c.append.new.disk
    c.in_err-append.ensures.same c.in_ok-lay.ensures.fits
    (λ kind commits settled entry. c.append.ensures.any_moment kind commits c.args.commit.now settled entry c.in_ok-lay.ensures.bytes))

pub returns-then-not-has_room-clause-still : goal.returns-then-not-has_room-clause-still
returns-then-not-has_room-clause-still g c =
    still_first g.K.Disk.moment g.K.Disk.may_leave g.K.Disk.left_since g.K.Disk.state c.args.commit.now c.args.self.now.file c.args.disk.now

pub returns-in_err-lay-clause-still : goal.returns-in_err-lay-clause-still
returns-in_err-lay-clause-still g c =
    on_err _ (still_first g.K.Disk.moment g.K.Disk.may_leave g.K.Disk.left_since g.K.Disk.state c.args.commit.now c.args.self.now.file c.args.disk.now)
