use Rattle.std.proofs.Common.{refl}
use Rattle.graph_model.specs.declared.limits.TheConstants.{MAX_LOAD_ROWS}
use Rattle.graph_model.specs.declared.write.Kind.TheVariants.{Undirected}
use Rattle.graph_files.specs.EdgeFiles.{Rules}
use Rattle.graph_files.specs.declared.weights.Weights.TheVariants.{Ones}
use Rattle.bench_graphs.proofs.graph.graph_of.Goals as goal

pub returns : goal.returns
returns c =
    let ids = c.in_ok-ids.ids in
    let edges = c.in_ok-edges.edges in
    let rules : Rules = record { ids = ids; kind = Undirected; weights = Ones; limit = MAX_LOAD_ROWS } in
    let loadable = c.files_are_loadable.ensures.loadable c.args.vertices.now c.args.edges.now ids MAX_LOAD_ROWS rules edges c.in_ok-ids.ensures.ok refl c.in_ok-edges.ensures.ok in
    record {
      allowed = c.load_is_legal.ensures.allowed Undirected ids edges loadable;
      within = c.load_is_legal.ensures.within Undirected ids edges loadable;
    }
