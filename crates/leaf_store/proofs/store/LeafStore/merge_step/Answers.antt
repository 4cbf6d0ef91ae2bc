use Rattle.std.proofs.Common.{arith}
use Rattle.leaf_store.proofs.SparseLemmas.{found_few}
use Rattle.leaf_store.proofs.WorkLemmas.{work_window}
use Rattle.leaf_store.proofs.store.LeafStore.merge_step.Goals as goal

pub spread_queued-requires-clause-can : goal.spread_queued-requires-clause-can
spread_queued-requires-clause-can c =
    let found = work_window c.self.inside.index c.self.inside.leaves.items _ c.in-Some-Spread.found c.in-Some-Spread.field-0-is c.in-Some-Spread.ensures.some in
    let round = found.leftmost.sparse.round in
    record {
      stands = found.stands;
      within = record { some = omega (arith, round.from, round.until); within = round.within };
      few = found_few c.self.inside.index c.self.inside.leaves.items c.in-Some-Spread.found c.self.invariant.kept found;
    }
