use Rattle.std.proofs.Common.{length, sym, ◌∙◌, ap}
use Rattle.leaf_index.specs.Idle.{Idle, leaves_of}
use Rattle.leaf_index.proofs.ChainLemmas.{length_leaves}
use Rattle.leaf_index.proofs.ReleaseLemmas.{length_stamped}
use Rattle.leaf_index.proofs.idle.IdleLeaves.retired_count.Goals as goal

pub returns : goal.returns
returns c =
    let f = c.self.inside in
    sym (ap (λ (i : Idle). length i.retired) (sym c.self.view_is) ∙ length_stamped f.stamps.items (leaves_of f.links.items f.retired) ∙ length_leaves f.links.items f.retired)
