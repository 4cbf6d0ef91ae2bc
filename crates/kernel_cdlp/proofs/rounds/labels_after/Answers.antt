use Rattle.std.proofs.Common.{◌≡◌, true, replicate, length, sym, ap, ◌∙◌, subst, arith}
use Rattle.std.specs.List.{range_with_len}
use Rattle.kernel_cdlp.specs.Rounds.{AreBelow, AreLabels, IsRound, IsRoused, AreMarked}
use Rattle.kernel_cdlp.proofs.KeptLemmas.{kept_first, kept_later}
use Rattle.kernel_cdlp.proofs.RoundLemmas.{first_below, labels_first, round_below, labels_more}
use Rattle.kernel_cdlp.proofs.WakeLemmas.{roused_all}
use Rattle.kernel_cdlp.proofs.rounds.labels_after.Goals as goal

pub rounds-init : goal.rounds-init
rounds-init g c =
    let n = length c.args.image.now.vertices in
    let first : c.in_ok-labels.labels.items ≡ range_with_len 0 (length c.args.image.now.vertices) = c.in_ok-labels.ensures ∙ ap (range_with_len 0) c.len-count.ensures.len in
    let below = subst (AreBelow n) (sym first) (first_below n) in
    let marks = c.in_ok-changed.ensures.items_if_clones_equal (λ y same. same) in (
      c.in_ok-parts.ensures,
      below,
      λ h is. subst (AreLabels h c.args.image.now.vertices 0) (sym first) (labels_first h c.args.image.now.vertices),
      kept_first c.args.image.now c.in_ok-labels.labels.items c.in_ok-changed.changed.items below (omega (arith, c.in_ok-changed.ensures.len, c.in_ok-changed.changed.ok, c.len-count.ensures.len))
          (marks ∙ ap (λ m. replicate m true) c.len-count.ensures.len),
      roused_all c.args.image.now c.in_ok-changed.changed.items c.in_ok-awake.awake.items _ c.len-count.ensures.len (c.in_ok-awake.ensures.items_if_clones_equal (λ y same. same)),
    )

pub rounds-preserved : goal.rounds-preserved
rounds-preserved g c =
    let is = c.rounds.invariant in
    let image = c.args.image.now in
    let old = c.rounds.labels.items in
    let new = c.round.new.labels.items in
    let swapped = ap (λ v. v.items) c.swap.ensures.x_after in
    let round = subst (λ xs. IsRound image xs new) (c.as_slice.ensures.value ∙ swapped) c.in_ok-round.ensures.ok in
    let marked = subst (λ xs. AreMarked xs new c.mark.new.changed.items) (c.as_slice-in-rounds-3.ensures.value ∙ swapped)
    (subst (λ xs. AreMarked c.as_slice-in-rounds-3.result.now xs c.mark.new.changed.items) c.as_slice-in-rounds-4.ensures.value c.mark.ensures) in (
      c.in_ok-round.ensures.parts,
      round_below image old new round,
      λ h at. labels_more image h at c.rounds._round old new is.1 (is.2 h at) round,
      kept_later image old new c.mark.new.changed.items round marked,
      subst (λ m. IsRoused image m c.wake.new.awake.items) c.as_slice-in-rounds-5.ensures.value c.wake.ensures,
    )

pub returns-clause-labels : goal.returns-clause-labels
returns-clause-labels g c = λ h image.
    let all : c.rounds._round ≡ c.args.rounds = omega (arith, c.rounds-test.false, c.rounds.auto) in
    subst (λ r. AreLabels h c.args.image.now.vertices r c.rounds.labels.items) all (c.rounds.invariant.2 h image)
