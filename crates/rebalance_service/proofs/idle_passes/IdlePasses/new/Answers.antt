use Rattle.rebalance_service.proofs.SpareLemmas.{keep_spare}
use Rattle.rebalance_service.proofs.idle_passes.IdlePasses.new.Goals as goal

pub invariant_of-result : goal.invariant_of-result
invariant_of-result g c = record {
  spare = keep_spare g.H.Home.home c.args.store.now g.H.Home.spare c.args.passes.items c.requires.home c.requires.spare;
}
