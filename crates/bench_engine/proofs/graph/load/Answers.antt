use Rattle.std.proofs.Common.{refl, ap, arith, ◌∙◌}
use Rattle.graph_model.specs.Account.{Account}
use Rattle.graph_model.specs.OwnerCalls.{Core}
use Rattle.bench_engine.specs.Configured.{bench_config}
use Rattle.bench_engine.proofs.BenchLemmas.{loaded_closed, one_new, takes_graph}
use Rattle.bench_engine.proofs.graph.load.Goals as goal

pub load_graph-requires-clause-new : goal.load_graph-requires-clause-new
load_graph-requires-clause-new g c = one_new (bench_config 1) _ refl (omega arith) c.requires.new

pub load_graph-requires-clause-load : goal.load_graph-requires-clause-load
load_graph-requires-clause-load g c = takes_graph _ c.args.graph.now (ap (λ (s : Core). s.kind) c.requires.new) c.requires.graph

pub returns : goal.returns
returns g c =
    ap (λ (a : Account). a.start) (g.met.E.StepEngine.accounts c.load_graph.new.engine)
    ∙ loaded_closed (bench_config 1) _ _ c.args.graph.now refl c.requires.new c.in_ok-load_graph.ensures.loaded
