use Rattle.std.proofs.Common.{◌≡◌, ◌≤◌, length, map}
use Rattle.std.specs.Vec.{vec_capacity}
use Rattle.latch_table.specs.Latched.{IsPassOf, number_of}
use Rattle.latch_table.specs.Several.{AreLaid, laid_word, stored_after}
use Rattle.latch_table.proofs.cells.Cells.release_all.Given as goal

abbrev pub invariant-cells : goal.invariant-cells
invariant-cells g l =
    IsPassOf (g.V.Slot.passes l.self.table.now.key) l.self.table.now.key l.self.table.now.table_id l.pass
    × (vec_capacity l.fn.laid ≤ vec_capacity l.laid)
    × (number_of l.pass.me.0 ≡ number_of l.fn.pass.me.0)
    × (stored_after (map laid_word l.fn.laid.items) l.fn.pass.me.0.stored ≡ stored_after
    (map laid_word l.laid.items) l.pass.me.0.stored)
    × AreLaid (g.V.Slot.fits l.self.table.now.key) l.self.table.now.table_id.words l.laid.items l.pass.me.1

abbrev pub decreases-cells : goal.decreases-cells
decreases-cells g l = length l.laid.items
