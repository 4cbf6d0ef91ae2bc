use Rattle.std.proofs.Common.{◌≡◌, length, refl, sym, ap, ◌∙◌, subst, arith, false, slice_get, Some}
use Rattle.graph_image.specs.Images.{arcs_at, AreWithin}
use Rattle.kernel_cdlp.proofs.RoundLemmas.{next_once, next_both}
use Rattle.kernel_cdlp.proofs.WakeLemmas.{asleep}
use Rattle.kernel_cdlp.proofs.part.next_label.Goals as goal

pub returns-then-not-awake-place : goal.returns-then-not-awake-place
returns-then-not-awake-place c =
    let place = c.requires.place in
    let count = c.requires.roused.count in
    let awake = c.args.awake.now in
    let at : slice_get awake c.args.place ≡ Some false = asleep awake c.args.place (omega arith) c.if-not-awake-place.true in
    record {
      most = λ linked. (c.requires.kept.each c.args.place place (c.requires.roused.each linked c.args.place place at)).most linked;
      below = c.requires.labels.each c.args.place place;
    }

pub returns-then-is_quiet : goal.returns-then-is_quiet
returns-then-is_quiet c = c.requires.kept.each c.args.place c.requires.place (c.is_quiet.ensures c.if-is_quiet.true)

pub returns-then-into_is_out : goal.returns-then-into_is_out
returns-then-into_is_out c =
    let sides : c.args.image.now.into ≡ c.args.image.now.out = c.into_is_out.ensures c.if-into_is_out.true in
    let same : c.out-out.result.now ≡ arcs_at c.args.image.now.into c.args.place = c.out-out.ensures.arcs ∙ ap (λ l. arcs_at l c.args.place) (sym sides) in
    next_once c.args.image.now c.args.labels.now c.args.place c.most_frequent.result c.requires.labels c.requires.place c.out-out.result.now (arcs_at c.args.image.now.into c.args.place)
    c.out-out.ensures.arcs refl c.out-out.ensures.within (subst (AreWithin (length c.args.image.now.vertices)) same c.out-out.ensures.within) c.args.met.now c.meet.new.met c.meet.ensures same c.most_frequent.ensures

pub returns : goal.returns
returns c =
    next_both c.args.image.now c.args.labels.now c.args.place c.most_frequent-2.result c.requires.labels c.requires.place c.out-out.result.now c.into-into.result.now
    c.out-out.ensures.arcs c.into-into.ensures.arcs c.out-out.ensures.within c.into-into.ensures.within c.args.met.now c.meet.new.met c.meet.ensures c.meet-2.new.met c.meet-2.ensures c.most_frequent-2.ensures
