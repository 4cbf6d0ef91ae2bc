use Rattle.std.proofs.Common.{refl}
use Rattle.std.specs.Ordering.{nat_cmp}
use Rattle.std.specs.Cmp.{nat_cmp_total}
use Rattle.std.specs.FinMap.{nat_cmp-IsAntisymmetric}
use Rattle.plain_graph.proofs.EntryLemmas.{entries_put, entries_dropped}
use Rattle.plain_graph.proofs.graph.PlainGraph.apply.Goals as goal

pub returns-in_ok-insert-in-AddVertex-clause-made : goal.returns-in_ok-insert-in-AddVertex-clause-made
returns-in_ok-insert-in-AddVertex-clause-made c =
    rw c.in-AddVertex.is (record {
      shows = λ g shows. record {
        vertices = entries_put nat_cmp nat_cmp_total nat_cmp-IsAntisymmetric g.vertices c.args.self.now.vertices.entries c.insert.new.self.entries c.in-AddVertex.v tt shows.vertices c.in_ok-insert-in-AddVertex.ensures.entries;
        arcs = shows.arcs;
      };
      kind = refl;
    })

pub returns-in-DropVertex-clause-made : goal.returns-in-DropVertex-clause-made
returns-in-DropVertex-clause-made c =
    rw c.in-DropVertex.is (record {
      shows = λ g shows. record {
        vertices = entries_dropped nat_cmp nat_cmp_total nat_cmp-IsAntisymmetric g.vertices c.args.self.now.vertices.entries c.remove.new.self.entries c.in-DropVertex.v shows.vertices c.remove.ensures.entries;
        arcs = shows.arcs;
      };
      kind = refl;
    })
