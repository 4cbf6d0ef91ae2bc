use Rattle.std.proofs.Common.{◌<◌, length, Some, sym, ap, ◌∙◌, arith}
use Rattle.undo_chain.specs.Packed.{record_in}
use Rattle.undo_chain.proofs.SlotLemmas.{next_within, full_at_end, read_at_next, read_vacant, slots_push, slots_fill, record_set_same, record_set_other}
use Rattle.undo_chain.proofs.slots.Slots.insert.Goals as goal

pub invariant_of-self : goal.invariant_of-self
invariant_of-self c =
    let room = rw (← c.self.view_is) at c.requires.room in
    let full = full_at_end _ _ _ c.self.invariant (omega arith) in
    rw (c.push_reserved.ensures.items, c.occupied-slot.ensures) (slots_push _ _ _ c.self.invariant c.args.undo (omega arith) (omega (arith, room, full)))

pub index_mut-requires : goal.index_mut-requires
index_mut-requires c = omega (arith, next_within _ _ _ c.self.invariant (λ e. omega arith))

pub next_vacant-self-inside-requires : goal.next_vacant-self-inside-requires
next_vacant-self-inside-requires c = ap record_in c.replace-vacant.ensures.value ∙ read_vacant _ _ _ c.self.invariant _ (λ e. omega arith) c.index_mut.ensures.value

pub invariant_of-self-2 : goal.invariant_of-self-2
invariant_of-self-2 c =
    let found = read_at_next _ _ _ c.self.invariant _ (λ e. omega arith) c.index_mut.ensures.value in
    rw (c.replace-vacant.ensures.after, c.occupied-slot.ensures) (slots_fill _ _ _ c.self.invariant _ c.args.undo (found ∙ ap Some (sym c.replace-vacant.ensures.value ∙ c.next_vacant-self-inside.ensures)))

pub returns-clause-put : goal.returns-clause-put
returns-clause-put c =
    let within : c.self.inside.next < length c.self.inside.slots.items = next_within _ _ _ c.self.invariant (λ e. omega arith) in
    record_set_same _ _ _ within ∙ ap record_in (c.replace-vacant.ensures.after ∙ c.occupied-slot.ensures)

pub returns-clause-others : goal.returns-clause-others
returns-clause-others c = rw (← c.self.view_is) (λ k other. record_set_other _ _ _ k other)
