use Rattle.std.proofs.Common.{◌≡◌, length, get_or, inl, inr, refl, sym, ◌∙◌, subst, arith}
use Rattle.kernel_cdlp.proofs.FrequencyLemmas.{IsCounted, counted_more, counted_all, fresh, again}
use Rattle.kernel_cdlp.proofs.frequency.longest_run.Goals as goal
use Rattle.kernel_cdlp.proofs.frequency.longest_run.Goals.{then-value-last, else-value-last, then-most-run, else-most-run}

pub values-preserved : goal.values-preserved
values-preserved c =
    let xs = c.args.values.now in
    let x = get_or xs c.values.i 0 in
    let is = c.values.invariant in
    let within = c.values-test.true in
    counted_more c.args.default xs c.requires c.values.i c.values.last c.values.run c.values.best c.values.most is x refl within
    c.if-value-last.last c.if-value-last.run c.if-most-run.best c.if-most-run.most
    (elim c.if-value-last.branch [ then-value-last w ↦ w.last-is | else-value-last w ↦ w.last-is ∙ sym w.if-value-last.false ])
    (elim c.if-value-last.branch [
      | then-value-last w ↦ w.run-is ∙ fresh c.args.default xs c.requires c.values.i c.values.last c.values.run c.values.best c.values.most is x refl within w.if-value-last.true
      | else-value-last w ↦ w.run-is ∙ again c.args.default xs c.requires c.values.i c.values.last c.values.run c.values.best c.values.most is x refl within w.if-value-last.false
    ])
    (elim c.if-most-run.branch [ then-most-run w ↦ inl (w.if-most-run.true, w.best-is, w.most-is) | else-most-run w ↦ inr (w.if-most-run.false, w.best-is, w.most-is) ])

pub returns : goal.returns
returns c =
    let all : c.values.i ≡ length c.args.values.now = omega (arith, c.values-test.false, c.values.auto) in
    counted_all c.args.default c.args.values.now c.values.last c.values.run c.values.best c.values.most
    (subst (λ i. IsCounted c.args.default c.args.values.now i c.values.last c.values.run c.values.best c.values.most) all c.values.invariant)
