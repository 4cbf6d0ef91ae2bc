use Rattle.undo_chain.specs.Walks.{with_stamp}
use Rattle.undo_chain.proofs.SlotLemmas.{key_within, read_record, slots_rewrite, record_changed, changed_slot}
use Rattle.undo_chain.proofs.slots.Slots.set_stamp.Goals as goal

pub invariant_of-self : goal.invariant_of-self
invariant_of-self c =
    let within = key_within c.self.inside.slots.items c.args.key (rw (← c.self.view_is) at c.requires) in
    let was = changed_slot (with_stamp c.args.stamp) c.index_mut.result.now _ c.set_stamp.ensures in
    let found = read_record c.self.inside.slots.items c.args.key c.index_mut.result.now was.0 within c.index_mut.ensures.value was.1 in
    rw was.2 (slots_rewrite _ _ _ c.self.invariant c.args.key was.0 found _)

pub returns : goal.returns
returns c =
    let within = key_within c.self.inside.slots.items c.args.key (rw (← c.self.view_is) at c.requires) in
    let was = changed_slot (with_stamp c.args.stamp) c.index_mut.result.now _ c.set_stamp.ensures in
    let found = read_record c.self.inside.slots.items c.args.key c.index_mut.result.now was.0 within c.index_mut.ensures.value was.1 in
    rw (← c.self.view_is) (record_changed (with_stamp c.args.stamp) c.self.inside.slots.items c.args.key _ _ was.0 found was.2)
