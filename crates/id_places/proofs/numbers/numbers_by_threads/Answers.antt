use Rattle.std.proofs.Common.{ap, ◌∙◌, sym, subst}
use Rattle.std.specs.Prelude.{IfOk}
use Rattle.std.specs.List.{AllZip}
use Rattle.rayon.proofs.ToStd.{slice-AllZip}
use Rattle.id_places.specs.Places.{AreNumbers, IsNumberOf}
use Rattle.id_places.proofs.NumberLemmas.{numbers_of_all}
use Rattle.id_places.proofs.numbers.numbers_by_threads.Goals as goal

pub returns-in-Ok : goal.returns-in-Ok
returns-in-Ok g c =
    let made = c.in_ok-found.ensures in
    let told = rw c.in-Ok.is at made.2 in
    let slice = ap (λ it. it.slice.now) c.map.ensures.base ∙ c.par_iter.ensures in
    let kind = c.map.result.f.1.now in
    let known = c.map.result.f.0.now in
    let each = slice-AllZip made.1.0 c.args.edges.now (made.1.1 ∙ slice) (λ edge r. IfOk r (IsNumberOf kind known edge)) made.0 made.1.2 in
    let numbers = numbers_of_all kind known _ c.args.edges.now told.0 (subst (AllZip _ c.args.edges.now) told.1 each) in
    subst (λ f. AreNumbers f.1.now f.0.now c.args.edges.now c.in-Ok.numbers.items) c.map.ensures.f
    (subst (AreNumbers kind known c.args.edges.now) (sym told.2) numbers)
