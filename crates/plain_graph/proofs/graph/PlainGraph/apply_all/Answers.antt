use Rattle.std.proofs.Common.{◌∙◌}
use Rattle.plain_graph.proofs.EntryLemmas.{makes_more}
use Rattle.plain_graph.proofs.graph.PlainGraph.apply_all.Goals as goal

pub writes-preserved : goal.writes-preserved
writes-preserved c = record {
  shows = λ g shows.
      makes_more c.writes.self c.apply.new.self c.args.self.now.kind g c.args.writes.now c.writes.write-index _ c.writes-test.true c.in_ok-apply.ensures.made
      c.writes.invariant.kind (c.writes.invariant.shows g shows);
  kind = c.apply.ensures.kind ∙ c.writes.invariant.kind;
}
