use Rattle.std.proofs.Common.{length, arith}
use Rattle.kernel_wcc.proofs.LabelLemmas.{low_settled, sound_settled, merged_none, are_components}
use Rattle.kernel_wcc.proofs.labels.components.Goals as goal

pub places-init : goal.places-init
places-init g c = merged_none c.args.image.now c.label_of-large.result c.settle.new.labels.items (sound_settled c.join_roots.new.labels.items c.settle.new.labels.items c.join_roots.ensures.low c.settle.ensures c.args.image.now (length c.args.image.now.vertices) c.join_roots.ensures)

pub returns-clause-low : goal.returns-clause-low
returns-clause-low g c = low_settled c.places.labels.items c.settle-2.new.labels.items c.places.invariant.sound.low c.settle-2.ensures

pub returns-clause-components : goal.returns-clause-components
returns-clause-components g c = λ h is.
    are_components c.places.labels.items c.settle-2.new.labels.items c.places.invariant.sound.low c.settle-2.ensures c.args.image.now c.label_of-large.result c.places.place c.places.invariant
    (omega (arith, c.places-test.false, c.len-place-end.ensures.len)) h is
