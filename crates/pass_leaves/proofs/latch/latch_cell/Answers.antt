use Rattle.std.proofs.Common.{sym, subst}
use Rattle.pass_leaves.specs.Hand.{HasLatched}
use Rattle.pass_leaves.proofs.LatchLemmas.{latched_more}
use Rattle.pass_leaves.proofs.latch.latch_cell.Goals as goal

pub returns-clause-latched : goal.returns-clause-latched
returns-clause-latched g c =
    let got = c.in-Some.ensures.held in
    subst (HasLatched c.args.store.now c.take_next_place.new.latch) (sym c.in-Ok.ensures.items)
    (latched_more c.args.store.now c.args.latch.now c.take_next_place.new.latch c.args.packed.now.items c.in-Some.held
    c.args.cell c.requires.latched c.in-Some.ensures.latch got.0 got.1 c.requires.cell got.2 got.3)
