use Rattle.std.proofs.Common.{sym, ap, ◌∙◌}
use Rattle.undo_chain.specs.Packed.{record_in}
use Rattle.undo_chain.proofs.SlotLemmas.{key_within, read_record, slots_vacate, record_set_same, record_set_other}
use Rattle.undo_chain.proofs.slots.Slots.remove.Goals as goal

pub invariant_of-self : goal.invariant_of-self
invariant_of-self c =
    let within = key_within c.self.inside.slots.items c.args.key (rw (← c.self.view_is) at c.requires) in
    let found = read_record c.self.inside.slots.items c.args.key c.index_mut.result.now c.undo.result within c.index_mut.ensures.value (sym (ap record_in c.replace-occupied.ensures.value) ∙ c.undo.ensures) in
    rw (c.replace-occupied.ensures.after, c.vacant.ensures) (slots_vacate _ _ _ c.self.invariant c.args.key c.undo.result found)

pub returns-clause-gone : goal.returns-clause-gone
returns-clause-gone c =
    record_set_same c.self.inside.slots.items c.args.key _ (key_within c.self.inside.slots.items c.args.key (rw (← c.self.view_is) at c.requires)) ∙ ap record_in (c.replace-occupied.ensures.after ∙ c.vacant.ensures)

pub returns-clause-others : goal.returns-clause-others
returns-clause-others c = rw (← c.self.view_is) (λ k other. record_set_other _ _ _ k other)
