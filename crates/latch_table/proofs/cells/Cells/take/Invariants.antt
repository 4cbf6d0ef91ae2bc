use Rattle.std.proofs.Common.{◌≡◌}
use Rattle.latch_table.specs.Latched.{IsPassOf, number_of}
use Rattle.latch_table.proofs.cells.Cells.take.Given as goal

abbrev pub invariant-tries : goal.invariant-tries
invariant-tries g l =
    (goal.iterator-tries g).can_next l.iterator' × (goal.iterator-tries g).is_finite l.iterator'
    × IsPassOf (g.V.Slot.passes l.self.table.now.key) l.self.table.now.key l.self.table.now.table_id l.pass
    × (number_of l.pass.me.0 ≡ number_of l.fn.pass.me.0) × (l.pass.me.1 ≡ l.fn.pass.me.1)
    × (l.pass.me.0.stored ≡ l.fn.pass.me.0.stored)
