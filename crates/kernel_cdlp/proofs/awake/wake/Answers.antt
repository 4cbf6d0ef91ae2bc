use Rattle.std.proofs.Common.{◌+◌, false, Some, sym, ap, ◌∙◌, subst, arith}
use Rattle.std.proofs.lemmas.Option.{slice_get-get_or}
use Rattle.kernel_cdlp.proofs.WakeLemmas.{IsWaking, waking_past, waking_more, roused_few}
use Rattle.kernel_cdlp.proofs.awake.wake.Goals as goal
use Rattle.kernel_cdlp.proofs.awake.wake.Goals.{then-changed-place, else-changed-place}

pub places-preserved : goal.places-preserved
places-preserved c = elim c.if-changed-place.branch [
  | then-changed-place w ↦ subst (λ v. IsWaking c.args.image.now c.args.changed.now (c.places.place + 1) v.items) (sym w.awake-is)
      (waking_more c.args.image.now c.args.changed.now c.places.place c.places.awake.items w.wake_ends.new.awake.items w.wake_ends-then-changed-place.new.awake.items w.out.result.now w.into.result.now
      c.places.invariant w.out.ensures.arcs w.into.ensures.arcs w.wake_ends.ensures w.wake_ends-then-changed-place.ensures)
  | else-changed-place w ↦ subst (λ v. IsWaking c.args.image.now c.args.changed.now (c.places.place + 1) v.items) (sym w.awake-is)
      (waking_past c.args.image.now c.args.changed.now c.places.place c.places.awake.items c.places.invariant
      (let marks = c.requires.changed in slice_get-get_or c.args.changed.now c.places.place false (omega (arith, c.places-test.true, c.len-place-end.ensures.len, marks)) ∙ ap Some w.if-changed-place.false))
]

pub returns : goal.returns
returns c = roused_few c.args.image.now c.args.changed.now c.places.place c.places.awake.items c.requires.changed (omega (arith, c.places-test.false, c.len-place-end.ensures.len))
    (λ p below. (c.len.ensures.image.out.within p below, c.len.ensures.image.into.within p below)) c.places.invariant
