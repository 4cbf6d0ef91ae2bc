use Rattle.std.proofs.Common.{length, sym, ◌∙◌, ap}
use Rattle.leaf_index.specs.Idle.{Idle}
use Rattle.leaf_index.proofs.ChainLemmas.{length_leaves}
use Rattle.leaf_index.proofs.idle.IdleLeaves.free_count.Goals as goal

pub returns : goal.returns
returns c =
    let f = c.self.inside in
    sym (ap (λ (i : Idle). length i.free) (sym c.self.view_is) ∙ length_leaves f.links.items f.free)
