use Rattle.std.proofs.Common.{refl}
use Rattle.shared_store.specs.Passes.{account_of}
use Rattle.shared_store.proofs.EndLemmas.{commits_on, may_stamp}
use Rattle.shared_store.proofs.transactions.commit.Goals as goal

pub finish-requires : goal.finish-requires
finish-requires g c =
    may_stamp c.args.store.now c.args.pass.now _ c.latest-begun.result.by c.commit-stamp.result c.requires.opened
    c.commit-stamp.ensures.ended c.commit-stamp.ensures.commits c.commit-stamp.ensures.stamp
    c.latest-begun.ensures.by c.commit-stamp.ensures.same.number refl refl

pub returns-clause-commits : goal.returns-clause-commits
returns-clause-commits g c =
    commits_on (account_of c.args.store.now c.args.pass.now) _ (account_of c.args.store.now c.finish.new.pass)
    c.commit-stamp.result c.commit-stamp.ensures.account c.finish.ensures.account
