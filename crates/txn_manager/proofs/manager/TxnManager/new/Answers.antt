use Rattle.std.proofs.Common.{◌≡◌, arith}
use Rattle.txn_manager.proofs.ManagerLemmas.{kept_new, view_new}
use Rattle.txn_manager.proofs.manager.TxnManager.new.Goals as goal

pub invariant_of-result : goal.invariant_of-result
invariant_of-result c =
    let all : c.loop.counter ≡ c.args.passes = omega arith in
    rw (c.loop.invariant, all) (kept_new _ c.args.passes _ c.new-2.ensures c.ranges.txns_per_pass.fits)

pub returns : goal.returns
returns c =
    let all : c.loop.counter ≡ c.args.passes = omega arith in
    rw (c.loop.invariant, all) (view_new _ c.args.passes c.args.txns_per_pass c.new-2.ensures)
