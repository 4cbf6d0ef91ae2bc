use Rattle.std.proofs.Common.{◌≡◌, ◌-◌, ◌<◌, length, get_or, map, refl, ap, ◌∙◌, subst, arith}
use Rattle.std.proofs.lemmas.List.FromFn.{length-range_with_len, get_or-range_with_len}
use Rattle.rayon.proofs.ToStd.{nat_range-All}
use Rattle.kernel_sssp.specs.Certain.{IsCertain}
use Rattle.kernel_sssp.specs.Distances.{wide_of}
use Rattle.kernel_sssp.proofs.certain.all_certain.Goals as goal

pub all-requires-clause-items : goal.all-requires-clause-items
all-requires-clause-items g c κs within =
    let ends = c.into_par_iter.ensures in
    nat_range-All (λ i. (i < length c.args.image.now.vertices) × (length c.args.distances.now ≡ length c.args.image.now.vertices))
    c.into_par_iter.result.start c.into_par_iter.result.end (λ i low high. (omega (arith, high, ends.1, c.len.ensures.len), c.requires.count))

pub returns : goal.returns
returns g c = λ ok place below.
    let e = c.all.ensures in
    let ends = c.into_par_iter.ensures in
    let first = c.into_par_iter.result.start in
    let n = c.into_par_iter.result.end - first in
    let wide : place < n = omega (arith, below, ends.0, ends.1, c.len.ensures.len) in
    let every = rw ok at e.2 in
    let inside : place < length e.0 = omega (arith, wide, ap length e.1, length-range_with_len first n) in
    let here : get_or e.0 place 0 ≡ place = ap (λ l. get_or l place 0) e.1 ∙ get_or-range_with_len first n place 0 wide ∙ omega (arith, ends.0) in
    subst (IsCertain c.args.image.now c.args.root (map wide_of c.args.distances.now)) here (every place 0 inside refl)
