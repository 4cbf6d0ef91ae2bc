use Rattle.std.proofs.Common.{length}
use Rattle.kernel_wcc.proofs.LabelLemmas.{first_sound, sound_settled}
use Rattle.kernel_wcc.proofs.labels.first_labels.Goals as goal

pub settle-requires : goal.settle-requires
settle-requires g c = (first_sound c.args.image.now c.label_each.new.labels.items c.label_each.ensures).low

pub returns : goal.returns
returns g c =
    let first = first_sound c.args.image.now c.label_each.new.labels.items c.label_each.ensures in
    sound_settled c.label_each.new.labels.items c.settle.new.labels.items first.low c.settle.ensures c.args.image.now (length c.args.image.now.vertices) first
