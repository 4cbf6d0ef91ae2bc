use Rattle.std.proofs.Common.{refl, ◌∙◌, ap}
use Rattle.leaf_index.specs.Idle.{Idle}
use Rattle.leaf_index.proofs.IndexLemmas.{given_back, idle_outside, kept_with, unused}
use Rattle.leaf_index.proofs.index.LeafIndex.give_back.Goals as goal

pub give_back-requires : goal.give_back-requires
give_back-requires c =
    idle_outside c.self.inside.slots.items c.self.inside.trie c.self.inside.idle c.args.leaf c.self.invariant.1 (unused _ _ _ _ _ c.args.leaf c.self.view_is c.requires)

pub invariant_of-self : goal.invariant_of-self
invariant_of-self c =
    let idle = c.self.inside.idle in
    let u = unused _ _ _ _ _ c.args.leaf c.self.view_is c.requires in
    (kept_with _ _ _ _ c.give_back.ensures (given_back _ _ idle.free idle.retired c.args.leaf _ c.self.invariant.0 u refl), ap (λ (i : Idle). i.leaves) c.give_back.ensures ∙ c.self.invariant.1, c.self.invariant.2)
