use Rattle.std.proofs.Common.{arith}
use Rattle.id_places.proofs.KnownLemmas.{right_slot}
use Rattle.id_places.proofs.slots.IdSlots.find.Goals as goal

pub returns-then-slot : goal.returns-then-slot
returns-then-slot c = λ ids right.
    right_slot ids c.self.inside.slots.items c.slots.at c.args.id c.index-slot.result.now (rw c.self.view_is right)
    (omega (arith, c.len.ensures, c.if-len-at.false)) c.index-slot.ensures c.if-slot-id.true c.if-slot.true
