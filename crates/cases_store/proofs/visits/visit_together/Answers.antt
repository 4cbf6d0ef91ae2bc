use Rattle.std.proofs.Common.{◌≡◌, drop, length, arith, subst, sym}
use Rattle.std.specs.Prelude.{slice_index_or}
use Rattle.cases_store.specs.Visits.{AreAtEase, StaysAtEase}
use Rattle.cases_store.proofs.VisitLemmas.{all_stay, ease_at, front_of}
use Rattle.cases_store.proofs.visits.visit_together.Goals as goal

pub for_each_mut-requires-clause-accepts : goal.for_each_mut-requires-clause-accepts
for_each_mut-requires-clause-accepts g c κs within = λ i p less is.
    ease_at c.args.store.now c.as_mut_slice.result.now
    (subst (AreAtEase c.args.store.now) (sym c.as_mut_slice.ensures.value) c.requires) i p.now less is

pub returns : goal.returns
returns g c =
    let store = c.args.store.now in
    let old = c.as_mut_slice.result.now in
    let new = c.for_each_mut.new.s in
    let count : c.args.passes.now.len ≡ length new =
    omega (arith, c.args.passes.now.ok, c.for_each_mut.auto.s, c.as_mut_slice.ensures) in
    let same : length new ≡ length old = omega (arith, c.for_each_mut.auto.s) in
    let all = all_stay store old new (subst (AreAtEase store) (sym c.as_mut_slice.ensures.value) c.requires) same
    (λ p d less.
    let at = (c.for_each_mut.ensures p d less).1 in
    subst (λ x. StaysAtEase store x (slice_index_or new p d)) at.argument_is
    (subst (StaysAtEase store at.argument.now) at.left at.call)) in
    let rest = drop (length new) c.args.passes.now.items in
    subst (AreAtEase store) (sym (front_of c.args.passes.now.len new rest count)) all
