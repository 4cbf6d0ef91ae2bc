use Rattle.std.proofs.Common.{[], ◌∷◌, ◌++◌, ◌∙◌, ap}
use Rattle.leaf_index.specs.Idle.{Idle}
use Rattle.leaf_index.proofs.IdleLemmas.{outside, retired_then}
use Rattle.leaf_index.proofs.idle.IdleLeaves.retire.Goals as goal

pub with_last-self-inside-requires : goal.with_last-self-inside-requires
with_last-self-inside-requires c =
    let o = outside c.self.inside.links.items c.self.inside.stamps.items c.self.inside.free c.self.inside.retired _ c.args.leaf c.self.view_is c.self.invariant c.requires in
    record { few = c.self.invariant.few; fewer = o.retired_fewer; exists = o.exists; lacks = o.lacks_retired }

pub invariant_of-self : goal.invariant_of-self
invariant_of-self c =
    let o = outside c.self.inside.links.items c.self.inside.stamps.items c.self.inside.free c.self.inside.retired _ c.args.leaf c.self.view_is c.self.invariant c.requires in
    (retired_then c.self.inside.links.items c.self.inside.stamps.items c.self.inside.free c.self.inside.retired c.args.leaf c.args.stamp _ _ c.self.invariant o c.with_last-self-inside.ensures).linked

pub returns : goal.returns
returns c =
    let o = outside c.self.inside.links.items c.self.inside.stamps.items c.self.inside.free c.self.inside.retired _ c.args.leaf c.self.view_is c.self.invariant c.requires in
    let g = retired_then c.self.inside.links.items c.self.inside.stamps.items c.self.inside.free c.self.inside.retired c.args.leaf c.args.stamp _ _ c.self.invariant o c.with_last-self-inside.ensures in
    g.shows ∙ ap (λ (i : Idle). record i { retired = i.retired ++ record { leaf = c.args.leaf; stamp = c.args.stamp } ∷ [] }) c.self.view_is
