use Rattle.std.proofs.Common.{◌≡◌, ◌+◌, length, take, drop, slice_get, Some, ◌++◌, sym, ap, ◌∙◌, subst, arith}
use Rattle.std.proofs.lemmas.Option.{slice_get_read}
use Rattle.kernel_cdlp.specs.Parts.{AreParts, AreRelabelled}
use Rattle.kernel_cdlp.proofs.PartLemmas.{AreJoined, front_of, joined_more, joined_all}
use Rattle.kernel_cdlp.proofs.rounds.round.Goals as goal

pub parts-preserved : goal.parts-preserved
parts-preserved g c =
    let count : c.args.parts.now.len ≡ length c.relabel_each.new.parts = omega (arith, c.args.parts.now.ok, c.relabel_each.auto.parts, c.as_mut_slice.ensures) in
    let now = take c.args.parts.now.len (c.relabel_each.new.parts ++ drop (length c.relabel_each.new.parts) c.args.parts.now.items) in
    let same = front_of c.args.parts.now.len c.relabel_each.new.parts (drop (length c.relabel_each.new.parts) c.args.parts.now.items) count in
    let long : c.args.parts.now.len ≡ length now = count ∙ ap length (sym same) in
    let part = c.index.result.now in
    let at : slice_get now c.parts.i ≡ Some part = slice_get_read now c.args.parts.now.len c.parts.i part long (omega (arith, c.parts-test.true, c.len-i-end.ensures)) c.index.ensures in
    subst (AreJoined c.args.image.now c.args.before.now now (c.parts.i + 1)) (sym (c.in_ok-extend_from_slice.ensures.items ∙ ap (λ l. c.parts.labels.items ++ l) c.as_slice.ensures.value))
    (joined_more c.args.image.now c.args.before.now now c.parts.i c.parts.labels.items part
    (subst (AreParts c.args.image.now (length c.args.image.now.vertices)) (sym same) c.relabel_each.ensures.parts)
    (subst (AreRelabelled c.args.image.now c.args.before.now) (sym same) c.relabel_each.ensures.labels)
    c.parts.invariant at)

pub returns-clause-ok : goal.returns-clause-ok
returns-clause-ok g c =
    let count : c.args.parts.now.len ≡ length c.relabel_each.new.parts = omega (arith, c.args.parts.now.ok, c.relabel_each.auto.parts, c.as_mut_slice.ensures) in
    let now = take c.args.parts.now.len (c.relabel_each.new.parts ++ drop (length c.relabel_each.new.parts) c.args.parts.now.items) in
    let same = front_of c.args.parts.now.len c.relabel_each.new.parts (drop (length c.relabel_each.new.parts) c.args.parts.now.items) count in
    let long : c.args.parts.now.len ≡ length now = count ∙ ap length (sym same) in
    let last : c.parts.i ≡ length now = omega (arith, c.parts-test.false, c.parts.auto, long) in
    joined_all c.args.image.now c.args.before.now now c.parts.i c.parts.labels.items c.parts.invariant last
