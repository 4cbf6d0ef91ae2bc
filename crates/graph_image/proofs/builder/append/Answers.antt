use Rattle.std.proofs.Common.{◌-◌, inl, inr, get_or, ap, refl, sym, ◌∙◌, arith}
use Rattle.graph_image.proofs.BuildLemmas.{appends}
use Rattle.graph_image.proofs.builder.append.Goals as goal
use Rattle.graph_image.proofs.builder.append.Goals.{then-count-eq0, then-count-eq0-via-then-count-eq0, then-count-eq0-via-else-count-eq0+then-as_slice-count, else-count-eq0+else-as_slice-count}

pub returns-clause-appended : goal.returns-clause-appended
returns-clause-appended c =
    appends c.args.sources.now.items c.args.rows.now.items c.args.row c.requires.built c.requires.storable c.if-count-eq0.sources.items _ _ c.push_within-2.ensures.put refl refl (ap (λ n. n - 1) c.len.ensures.len)
    (elim c.if-count-eq0.branch [
      | then-count-eq0 w ↦ inr (
        ap (λ s. s.items) w.sources-is ∙ w.push_within.ensures.put,
        elim w.then-count-eq0.branch [
          | then-count-eq0-via-then-count-eq0 w' ↦ inl (omega (arith, w'.if-count-eq0.true, c.len-count.ensures.len))
          | then-count-eq0-via-else-count-eq0+then-as_slice-count w' ↦ inr (λ same. w'.if-as_slice-count.true ((λ i. get_or (w'.as_slice.ensures i) (c.len-count.ensures.len i - 1) 0) ∙ same))
        ],
      )
      | else-count-eq0+else-as_slice-count w ↦ inl (ap (λ s. s.items) w.sources-is, omega (arith, w.if-count-eq0.false, c.len-count.ensures.len), (λ i. get_or (sym w.as_slice.ensures i) (sym c.len-count.ensures.len i - 1) 0) ∙ w.if-as_slice-count.false)
    ])
