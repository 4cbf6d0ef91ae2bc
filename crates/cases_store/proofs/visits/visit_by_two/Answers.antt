use Rattle.cases_store.proofs.VisitLemmas.{all_back, new_at_ease}
use Rattle.cases_store.proofs.visits.visit_by_two.Goals as goal

pub visit_together-requires-after_bounds : goal.visit_together-requires-after_bounds
visit_together-requires-after_bounds g c κs within =
    new_at_ease c.in_ok-store.store c.in_ok-store.passes.list.items c.in_ok-store.ensures.passes

pub take_apart-content-requires-clause-passes : goal.take_apart-content-requires-clause-passes
take_apart-content-requires-clause-passes g c =
    all_back c.in_ok-store.store c.cells_at_version-changed.new.passes.items c.cells_at_version-changed.ensures
