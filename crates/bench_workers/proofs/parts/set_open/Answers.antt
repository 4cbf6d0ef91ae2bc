use Rattle.graph_model.specs.declared.write.Write.TheVariants.{SetEdge}
use Rattle.cases_workers.proofs.OpenLemmas.{IsOpenAs, stays_open}
use Rattle.std.proofs.Common.{refl}
use Rattle.bench_workers.proofs.parts.set_open.Goals as goal

pub returns : goal.returns
returns g c =
    let kept = stays_open (g.E.Engine.account c.args.engine.now) (g.E.Engine.account c.args.engine.now)
    (g.E.Engine.account c.set_edge-result.new.self) (SetEdge c.from.result c.from-2.result 2)
    c.set_edge-result.result (c.requires.current, refl)
    (g.met.E.Engine.wrote c.args.engine.now c.set_edge-result.new.self (SetEdge c.from.result c.from-2.result 2)
    c.set_edge-result.result c.set_edge-result.ensures).0 in
    record { current = kept.0; job = kept.1 }
