use Rattle.store_rule.proofs.CloseLemmas.{popped}
use Rattle.store_rule.proofs.close.pop_slot.Goals as goal

pub returns : goal.returns
returns c = λ z table n are. popped z table n c.args.slots.now.items c.pop.new.self.items c.in-Some.slot
    c.in-Some.ensures.items are
