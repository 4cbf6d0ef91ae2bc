use Rattle.std.proofs.Common.{◌≡◌, ◌-◌, suc, subst, ◌∙◌, ap, arith}
use Rattle.head_map.specs.Heads.{PlacedRow, IsPlaceIn}
use Rattle.head_map.proofs.HeadLemmas.{index_of, there_at}
use Rattle.head_map.proofs.PlaceLemmas.{none_before, last_is_before, none_between}
use Rattle.head_map.proofs.list.HeadList.last_before.Goals as goal

pub returns-then-index-eq0-clause-between : goal.returns-then-index-eq0-clause-between
returns-then-index-eq0-clause-between c =
    rw (← c.self.view_is) (λ p _ lt. none_before c.self.inside.rows.items c.args.place c.index_in-index.result (rw c.as_slice.ensures.value at c.index_in-index.ensures) (omega (arith, c.if-index-eq0.true)) p lt)

pub returns-clause-between : goal.returns-clause-between
returns-clause-between c =
    let at = rw c.as_slice.ensures.value at c.index_in-index.ensures in
    let one_more : c.index_in-index.result ≡ suc (c.index_in-index.result - 1) = omega (arith, c.if-index-eq0.false) in
    let row = there_at c.self.inside.rows.items (c.index_in-index.result - 1) (omega (arith, at.within, c.if-index-eq0.false)) in
    let place : c.place.result ≡ row.0.place = c.place.ensures ∙ ap (λ (r : PlacedRow). r.place) (c.index.ensures ∙ index_of c.self.inside.rows.items (c.index_in-index.result - 1) row.0 c.index.result.now row.1) in
    rw (← c.self.view_is) (λ p gt lt. none_between c.args.place (c.index_in-index.result - 1) row.0 c.self.inside.rows.items c.self.invariant.rising
    (subst (λ i. IsPlaceIn c.self.inside.rows.items c.args.place i) one_more at) row.1 p (omega (arith, gt, place)) lt)

pub returns-clause-below : goal.returns-clause-below
returns-clause-below c =
    let at = rw c.as_slice.ensures.value at c.index_in-index.ensures in
    let one_more : c.index_in-index.result ≡ suc (c.index_in-index.result - 1) = omega (arith, c.if-index-eq0.false) in
    let row = there_at c.self.inside.rows.items (c.index_in-index.result - 1) (omega (arith, at.within, c.if-index-eq0.false)) in
    let place : c.place.result ≡ row.0.place = c.place.ensures ∙ ap (λ (r : PlacedRow). r.place) (c.index.ensures ∙ index_of c.self.inside.rows.items (c.index_in-index.result - 1) row.0 c.index.result.now row.1) in
    let below = last_is_before c.args.place (c.index_in-index.result - 1) row.0 c.self.inside.rows.items (subst (λ i. IsPlaceIn c.self.inside.rows.items c.args.place i) one_more at) row.1 in
    omega (arith, below, place)
