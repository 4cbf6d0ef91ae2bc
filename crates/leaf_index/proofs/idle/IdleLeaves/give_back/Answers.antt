use Rattle.std.proofs.Common.{[], ◌∷◌, ◌++◌, ◌∙◌, ap}
use Rattle.leaf_index.specs.Idle.{Idle}
use Rattle.leaf_index.proofs.IdleLemmas.{given, outside}
use Rattle.leaf_index.proofs.idle.IdleLeaves.give_back.Goals as goal

pub with_last-self-inside-requires : goal.with_last-self-inside-requires
with_last-self-inside-requires c =
    let o = outside c.self.inside.links.items c.self.inside.stamps.items c.self.inside.free c.self.inside.retired _ c.args.leaf c.self.view_is c.self.invariant c.requires in
    record { few = c.self.invariant.few; fewer = o.free_fewer; exists = o.exists; lacks = o.lacks_free }

pub invariant_of-self : goal.invariant_of-self
invariant_of-self c =
    let o = outside c.self.inside.links.items c.self.inside.stamps.items c.self.inside.free c.self.inside.retired _ c.args.leaf c.self.view_is c.self.invariant c.requires in
    (given c.self.inside.links.items c.self.inside.stamps.items c.self.inside.free c.self.inside.retired c.args.leaf _ _ c.self.invariant o c.with_last-self-inside.ensures).linked

pub returns : goal.returns
returns c =
    let o = outside c.self.inside.links.items c.self.inside.stamps.items c.self.inside.free c.self.inside.retired _ c.args.leaf c.self.view_is c.self.invariant c.requires in
    let g = given c.self.inside.links.items c.self.inside.stamps.items c.self.inside.free c.self.inside.retired c.args.leaf _ _ c.self.invariant o c.with_last-self-inside.ensures in
    g.shows ∙ ap (λ (i : Idle). record i { free = i.free ++ c.args.leaf ∷ [] }) c.self.view_is
