use Rattle.std.proofs.Common.{◌≡◌, ◌<◌, ◌∙◌, sym, subst, refl, length, arith}
use Rattle.std.specs.Prelude.{slice_get, Some}
use Rattle.std.proofs.lemmas.Option.{slice_get_read}
use Rattle.graph_model.specs.Graph.{apply_all}
use Rattle.graph_model.specs.History.{graph_at}
use Rattle.graph_model.proofs.HistoryLemmas.{graph_at-next}
use Rattle.plain_graph.specs.Showing.{Shows}
use Rattle.plain_graph.proofs.EntryLemmas.{counted}
use Rattle.plain_graph.proofs.counts.count_graph.Goals as goal

pub commits-preserved : goal.commits-preserved
commits-preserved c =
    let journal = c.args.journal.now in
    let i = c.commits.commit-index in
    let kind = c.args.kind in
    let commit = c.commit-item.result in
    let inside : i < length journal = c.commits-test.true in
    let at : slice_get journal i ≡ Some commit = slice_get_read journal (length journal) i commit refl inside c.commit-item.is in
    record {
      shows = subst (Shows c.apply_all.new.self) (sym (graph_at-next kind journal i commit at))
          (subst (λ ws. Shows c.apply_all.new.self (apply_all kind (graph_at kind journal i) ws)) c.as_slice.ensures
          (subst (λ k. Shows c.apply_all.new.self (apply_all k (graph_at kind journal i) c.as_slice.result.now)) c.commits.invariant.kind
          (c.in_ok-apply_all.ensures.shows (graph_at kind journal i) c.commits.invariant.shows)));
      kind = c.apply_all.ensures.kind ∙ c.commits.invariant.kind;
    }

pub returns : goal.returns
returns c =
    let journal = c.args.journal.now in
    let all : c.commits.commit-index ≡ length journal = omega arith in
    let shows = subst (λ n. Shows c.commits.graph (graph_at c.args.kind journal n)) all c.commits.invariant.shows in
    counted c.commits.graph c.args.kind (graph_at c.args.kind journal (length journal)) _ _ shows c.commits.invariant.kind c.len.ensures.len
    (c.edge_count.ensures (graph_at c.args.kind journal (length journal)) shows)
