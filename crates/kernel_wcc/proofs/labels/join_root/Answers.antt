use Rattle.std.proofs.Common.{length, subst}
use Rattle.kernel_wcc.specs.Labels.{AreJoined}
use Rattle.kernel_wcc.proofs.LabelLemmas.{sound_out}
use Rattle.kernel_wcc.proofs.labels.join_root.Goals as goal

pub returns : goal.returns
returns c =
    sound_out c.args.image.now c.args.labels.now.items c.requires.labels c.args.place c.requires.place.0 (length c.out.result.now) c.join_ends.new.labels.items
    (subst (λ arcs. AreJoined c.args.labels.now.items c.args.place arcs (length c.out.result.now) c.join_ends.new.labels.items) c.out.ensures.arcs c.join_ends.ensures)
