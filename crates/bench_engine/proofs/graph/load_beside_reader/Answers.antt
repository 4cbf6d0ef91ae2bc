use Rattle.std.proofs.Common.{refl, ap, arith}
use Rattle.graph_model.specs.OwnerCalls.{Core}
use Rattle.bench_engine.specs.Configured.{bench_config}
use Rattle.bench_engine.proofs.BenchLemmas.{takes_graph, two_new}
use Rattle.bench_engine.proofs.graph.load_beside_reader.Goals as goal

pub load_graph-requires-clause-new : goal.load_graph-requires-clause-new
load_graph-requires-clause-new g c = two_new (bench_config 2) _ refl (omega arith) c.requires.new

pub load_graph-requires-clause-load : goal.load_graph-requires-clause-load
load_graph-requires-clause-load g c = takes_graph _ c.args.graph.now (ap (λ (s : Core). s.kind) c.requires.new) c.requires.graph
