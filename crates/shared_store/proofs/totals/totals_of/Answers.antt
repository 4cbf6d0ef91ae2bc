use Rattle.std.proofs.Common.{arith, refl}
use Rattle.shared_store.proofs.totals.totals_of.Goals as goal

pub returns : goal.returns
returns c = λ g holds.
    let few = c.count_rows-counts.ensures.few in
    record {
      vertices = c.count_rows-counts.ensures.vertices g holds;
      edges = c.edges_in.ensures g (c.count_rows-counts.ensures.arcs g holds _ (omega (arith, few)));
      undo = refl;
      retired = refl;
    }
