use Rattle.std.proofs.Common.{refl, ◌∙◌, ap}
use Rattle.leaf_index.specs.Idle.{Idle}
use Rattle.leaf_index.proofs.IndexLemmas.{idle_outside, kept_with, retired_more, unused}
use Rattle.leaf_index.proofs.index.LeafIndex.retire.Goals as goal

pub retire-requires : goal.retire-requires
retire-requires c =
    idle_outside c.self.inside.slots.items c.self.inside.trie c.self.inside.idle c.args.leaf c.self.invariant.1 (unused _ _ _ _ _ c.args.leaf c.self.view_is c.requires)

pub invariant_of-self : goal.invariant_of-self
invariant_of-self c =
    let idle = c.self.inside.idle in
    let u = unused _ _ _ _ _ c.args.leaf c.self.view_is c.requires in
    (kept_with _ _ _ _ c.retire.ensures (retired_more _ _ idle.free idle.retired (record { leaf = c.args.leaf; stamp = c.args.stamp }) _ c.self.invariant.0 u refl), ap (λ (i : Idle). i.leaves) c.retire.ensures ∙ c.self.invariant.1, c.self.invariant.2)
