use Rattle.graph_model.specs.Rows.{rows}
use Rattle.leaf_rows.specs.Runs.{has_second}
use Rattle.shared_store.specs.Passes.{KeepsOpen, view_in}
use Rattle.shared_store.proofs.EdgeLemmas.{IsLooking, left_of}
use Rattle.shared_store.proofs.edges.sees_any.Given as goal

abbrev pub invariant-turns : goal.invariant-turns
invariant-turns g l = record {
  kept : KeepsOpen l.store l.fn.pass l.pass;
  looking : IsLooking (view_in l.store l.fn.pass) (has_second l.fn.second)
      (rows (view_in l.store l.fn.pass) l.fn.from l.fn.until) l.cursor;
}

abbrev pub decreases-turns : goal.decreases-turns
decreases-turns g l = left_of (view_in l.store l.fn.pass) l.cursor
