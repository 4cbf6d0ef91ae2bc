use Rattle.rebalance_service.proofs.SpareLemmas.{spare_on, spare_there}
use Rattle.rebalance_service.proofs.idle_passes.IdlePasses.read.Goals as goal

pub scan_parts-requires-clause-idle : goal.scan_parts-requires-clause-idle
scan_parts-requires-clause-idle g c κs within =
    (spare_there g.H.Home.home c.args.store.now g.H.Home.spare c.args.self.now.passes.items c.args.self.now.spare
    c.requires.home).idle

pub invariant_of-self : goal.invariant_of-self
invariant_of-self g c = record {
  spare = spare_on g.H.Home.home c.args.store.now g.H.Home.spare c.args.self.now.passes.items
      c.scan_parts.new.idle.items c.args.self.now.spare c.requires.home c.scan_parts.ensures.idle
      c.scan_parts.ensures.own;
}
