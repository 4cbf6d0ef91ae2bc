use Rattle.rebalance_service.proofs.SpareLemmas.{spare_there}
use Rattle.rebalance_service.proofs.idle_passes.IdlePasses.into_passes.Goals as goal

pub returns : goal.returns
returns g c = record {
  spare = spare_there g.H.Home.home c.args.store.now g.H.Home.spare c.args.self.passes.items c.args.self.spare
      c.requires.home;
}
