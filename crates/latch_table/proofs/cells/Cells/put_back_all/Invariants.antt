use Rattle.std.proofs.Common.{◌≡◌, ◌≤◌, ◌+◌, ◌++◌, List, ℕ, length, map}
use Rattle.std.specs.Vec.{vec_capacity}
use Rattle.latch_table.specs.Latched.{IsPassOf}
use Rattle.latch_table.specs.Several.{taken_of, laid_of, words_of, laid_word, AreHeldFit, AreLaid}
use Rattle.latch_table.proofs.cells.Cells.put_back_all.Given as goal

abbrev pub invariant-back : goal.invariant-back
invariant-back g l =
    IsPassOf (g.V.Slot.passes l.self.table.now.key) l.self.table.now.key l.self.table.now.table_id l.pass
    × (l.pass.me.0 ≡ l.fn.pass.me.0)
    × (vec_capacity l.fn.held ≤ vec_capacity l.held) × (vec_capacity l.fn.laid ≤ vec_capacity l.laid)
    × AreHeldFit (g.V.Slot.fits l.self.table.now.key) l.self.table.now.table_id.words l.held.items
    × (length l.held.items + length l.laid.items ≤ vec_capacity l.laid)
    × (words_of l.fn.held.items ≡ map laid_word l.laid.items ++ words_of l.held.items)
    × ((back : List (ℕ × _)) × (l.pass.me.1 ≡ taken_of g.V.Slot.vacant l.held.items ++ back)
    × (laid_of l.fn.held.items ≡ back ++ laid_of l.held.items)
    × AreLaid (g.V.Slot.fits l.self.table.now.key) l.self.table.now.table_id.words l.laid.items back)

abbrev pub decreases-back : goal.decreases-back
decreases-back g l = length l.held.items
