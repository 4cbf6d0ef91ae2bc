-- A write leaves the transaction open, and an engine that has loaded a graph has none open.
use Rattle.std.proofs.Common.{◌≡◌, ℕ, ◌<◌, List, [], ◌∷◌, Option, Some, None, refl, sym, ◌∙◌, ap, subst}
use Rattle.std.specs.Prelude.{IsSome, Result, Ok, Err}
use Rattle.std.specs.List.{AllByRecursion}
use Rattle.graph_model.specs.declared.write.Kind.TheVariants.{Undirected}
use Rattle.graph_model.specs.declared.write.Write.{Write}
use Rattle.graph_model.specs.declared.refusal.Cause.TheVariants.{Later, Holder}
use Rattle.graph_model.specs.declared.refusal.Refusal.{Refusal}
use Rattle.graph_model.specs.declared.refusal.Refusal.TheVariants as refusals
use Rattle.graph_model.specs.Account.{Account}
use Rattle.graph_model.specs.AccountSteps.{GoesOn, RefusesBy, WritesAt, WritesBy}
use Rattle.graph_model.specs.Graph.{empty_graph}
use Rattle.graph_model.specs.Loading.{IsAdd, IsLoad, IsNew, loaded}
use Rattle.graph_model.specs.OwnerCalls.{Core, account_here}
use Rattle.graph_model.specs.Refused.{AllAllowed}
use Rattle.graphalytics_io.specs.declared.edges.Edge.{Edge}
use Rattle.graphalytics_io.specs.Load.{load_of}
use Rattle.txn_manager.specs.declared.config.Config.{Config}
use Rattle.teseo_core.specs.Keeping.{new_core}
use Rattle.teseo_core.specs.Passes.{new_pass}
use Rattle.bench_graphs.specs.declared.graph.Graph.{Graph}
use Rattle.bench_graphs.proofs.LoadLemmas.{load_adds}
use Rattle.bench_graphs.specs.Loadable.{IsLoadableGraph}

-- what goes on as this account has its start
same_start : (old changed new : Account) → changed.start ≡ old.start → GoesOn old changed new → new.start ≡ old.start
same_start old changed new same goes = ap (λ (a : Account). a.start) goes.others ∙ same

refused_start : (old new : Account) (start : ℕ) (w : Write) (r : Refusal) → RefusesBy old start w r new → new.start ≡ old.start
refused_start old new start w refusals.SelfLoop h = same_start old old new refl h.1
refused_start old new start w (refusals.NoVertex v) h = same_start old old new refl h.1
refused_start old new start w refusals.VertexExists h = same_start old old new refl h.1
refused_start old new start w refusals.EdgeExists h = same_start old old new refl h.1
refused_start old new start w refusals.NoEdge h = same_start old old new refl h.1
refused_start old new start w refusals.HasEdges h = same_start old old new refl h.1
refused_start old new start w (refusals.Conflict (Later stamp)) h = same_start old _ new refl h.2
refused_start old new start w (refusals.Conflict (Holder by)) h = same_start old _ new refl h.2
refused_start old new start w (refusals.Full leaves) h = same_start old _ new refl h.3
refused_start old new start w refusals.NoMemory h = same_start old old new refl h

written_start : (old new : Account) (start : ℕ) (w : Write) (r : Result (Unit {0}) Refusal) → WritesAt old start w r new → new.start ≡ old.start
written_start old new start w (Ok u) h = same_start old _ new refl h.1
written_start old new start w (Err e) h = refused_start old new start w e h

-- a write leaves the transaction open
pub stays_open : (old new : Account) (w : Write) (r : Result (Unit {0}) Refusal) → IsSome old.start → WritesBy old w r new → new.start ≡ old.start
stays_open old new w r some h = by_start old.start refl some
  where
    by_start : (o : Option ℕ) → old.start ≡ o → IsSome o → new.start ≡ old.start
    by_start None e is = cc
    by_start (Some start) e is = written_start old new start w r (h start e)

-- an engine of one pass is new
pub one_new : (config : Config) (core : Core) → config.passes ≡ 1 → 0 < config.txns_per_pass → core ≡ new_core config → IsNew core
one_new config core one some is = subst IsNew (sym is) (record {
  first = new_pass config.txns_per_pass;
  others = [];
  passes = λ i. passes_are i;
  selected = refl;
  journal = refl;
  each = (record { begun = refl; made = refl; start = refl; own = refl }, tt);
  allowed = some;
})
  where
    passes_are : (new_core config).passes ≡ new_pass config.txns_per_pass ∷ []
    passes_are = ap (λ n. (new_core (record config { passes = n })).passes) one

-- so is one of two passes
pub two_new : (config : Config) (core : Core) → config.passes ≡ 2 → 0 < config.txns_per_pass → core ≡ new_core config → IsNew core
two_new config core two some is = subst IsNew (sym is) (record {
  first = new_pass config.txns_per_pass;
  others = new_pass config.txns_per_pass ∷ [];
  passes = ap (λ n. (new_core (record config { passes = n })).passes) two;
  selected = refl;
  journal = refl;
  each = (record { begun = refl; made = refl; start = refl; own = refl }, (record { begun = refl; made = refl; start = refl; own = refl }, tt));
  allowed = some;
})

-- behind the load it has no transaction open
pub loaded_closed : (config : Config) (core new : Core) (graph : Graph) → config.passes ≡ 1 → core ≡ new_core config → new ≡ loaded core (load_of graph.ids graph.edges) → (account_here new).start ≡ None
loaded_closed config core new graph one is behind =
    ap (λ (c : Core). (account_here c).start) (behind ∙ ap (λ c. loaded c (load_of graph.ids graph.edges)) is)
    ∙ ap (λ n. (account_here (loaded (new_core (record config { passes = n })) (load_of graph.ids graph.edges))).start) one

-- and takes the graph
pub takes_graph : (core : Core) (graph : Graph) → core.kind ≡ Undirected → IsLoadableGraph graph → IsLoad core (load_of graph.ids graph.edges)
takes_graph core graph kind is = record {
  adds = load_adds graph.ids graph.edges;
  allowed = subst (λ k. AllAllowed k empty_graph (load_of graph.ids graph.edges)) (sym kind) is.allowed;
  within = is.within;
}
