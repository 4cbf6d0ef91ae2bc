use Rattle.undo_chain.specs.Walks.{marked}
use Rattle.undo_chain.proofs.SlotLemmas.{key_within, read_record, slots_rewrite, record_changed, changed_slot, some_there}
use Rattle.undo_chain.proofs.slots.Slots.set_all_stamped.Goals as goal

pub invariant_of-self : goal.invariant_of-self
invariant_of-self c =
    let within = key_within c.self.inside.slots.items c.args.key (some_there _ _ (rw (← c.self.view_is) at c.requires)) in
    let was = changed_slot marked c.index_mut.result.now _ c.set_all_stamped.ensures in
    let found = read_record c.self.inside.slots.items c.args.key c.index_mut.result.now was.0 within c.index_mut.ensures.value was.1 in
    rw was.2 (slots_rewrite _ _ _ c.self.invariant c.args.key was.0 found _)

pub returns : goal.returns
returns c =
    let within = key_within c.self.inside.slots.items c.args.key (some_there _ _ (rw (← c.self.view_is) at c.requires)) in
    let was = changed_slot marked c.index_mut.result.now _ c.set_all_stamped.ensures in
    let found = read_record c.self.inside.slots.items c.args.key c.index_mut.result.now was.0 within c.index_mut.ensures.value was.1 in
    rw (← c.self.view_is) (record_changed marked c.self.inside.slots.items c.args.key _ _ was.0 found was.2)
