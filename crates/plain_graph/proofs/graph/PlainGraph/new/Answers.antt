use Rattle.std.proofs.Common.{◌∙◌, sym}
use Rattle.std.specs.Ordering.{nat_cmp}
use Rattle.graph_model.specs.Graph.{arc_cmp}
use Rattle.graph_model.proofs.EntryLemmas.{entries-empty}
use Rattle.plain_graph.proofs.graph.PlainGraph.new.Goals as goal

pub returns-clause-shows : goal.returns-clause-shows
returns-clause-shows c = record {
  vertices = c.new.ensures.empty ∙ sym (entries-empty nat_cmp);
  arcs = c.new-2.ensures.empty ∙ sym (entries-empty arc_cmp);
}
