use Rattle.std.proofs.Common.{rules, ◌≡◌, ◌∙◌, sym, ap, map, length}
use Rattle.std.specs.Prelude.{count_by, nat_le}
use Rattle.std.specs.FinMap as fin_map
use Rattle.std.specs.BTreeMap.{keys}
use Rattle.plain_graph.proofs.graph.PlainGraph.edge_count.Goals as goal

pub returns-in-Directed : goal.returns-in-Directed
returns-in-Directed c = λ g shows. rw c.in-Directed.is (c.len.ensures.len ∙ ap length shows.arcs ∙ sym (fin_map.len-entries g.arcs))

pub returns-in-Undirected : goal.returns-in-Undirected
returns-in-Undirected c = λ g shows.
    let counted : c.count.result ≡ count_by (λ arc. nat_le arc.0 arc.1) (keys c.args.self.now.arcs) = search rules in
    rw c.in-Undirected.is (counted ∙ ap (λ es. count_by (λ arc. nat_le arc.0 arc.1) (map (λ e. e.0) es)) shows.arcs)
