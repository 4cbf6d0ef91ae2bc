use Rattle.leaf_rows.proofs.HeldLemmas.{changes, may_change, stays_unstamped}
use Rattle.leaf_rows.proofs.held.LeafRowsHeldCells.change.Goals as goal

pub invariant_of-self : goal.invariant_of-self
invariant_of-self c =
    let holds = c.is_sound.ensures in
    stays_unstamped c.args.change c.args.by c.self.inside.store c.change.new.self c.args.key holds.sound c.is_sound-2.ensures.sound holds.there holds.apart c.requires.held c.change.ensures.changed c.self.invariant

pub change-requires-clause-may : goal.change-requires-clause-may
change-requires-clause-may c =
    may_change c.args.change c.args.by c.self.inside.store c.args.key c.is_sound.ensures.there c.requires.held (rw (← c.self.view_is) at c.requires.may)

pub returns-clause-changed : goal.returns-clause-changed
returns-clause-changed c =
    let holds = c.is_sound.ensures in
    let may = rw (← c.self.view_is) at c.requires.may in
    rw (← c.self.view_is) (changes c.args.change c.args.by c.self.inside.store c.change.new.self c.args.key holds.sound c.is_sound-2.ensures.sound holds.there holds.apart c.requires.held c.change.ensures.changed may c.change.ensures.spare)
