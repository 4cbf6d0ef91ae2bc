use Rattle.std.proofs.Common.{refl, ◌∙◌, ap}
use Rattle.leaf_index.specs.Idle.{Idle}
use Rattle.leaf_index.proofs.IndexLemmas.{kept_freed, kept_with}
use Rattle.leaf_index.proofs.index.LeafIndex.free_retired.Goals as goal

pub invariant_of-self : goal.invariant_of-self
invariant_of-self c =
    let idle = c.self.inside.idle in
    (kept_with _ _ _ _ c.free_retired.ensures.freed (kept_freed _ _ idle.free _ idle.retired _ c.args.until c.args.upto c.self.invariant.0 refl refl), ap (λ (i : Idle). i.leaves) c.free_retired.ensures.freed ∙ c.self.invariant.1, c.self.invariant.2)
