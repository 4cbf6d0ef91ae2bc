use Rattle.shared_store.proofs.SeatLemmas.{all_new}
use Rattle.shared_store.proofs.ends.new.Goals as goal

pub returns-clause-passes : goal.returns-clause-passes
returns-clause-passes c =
    all_new c.in-Ok.made.0 c.in-Ok.made.1.list.items c.in_ok-passes.passes.list.items c.in_ok-passes.ensures.seats
    c.in-Ok.ensures.passes c.in-Ok.made.0.same.0 c.in_ok-passes.ensures.fresh c.in_ok-passes.ensures.cells
