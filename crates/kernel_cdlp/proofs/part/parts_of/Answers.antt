use Rattle.std.proofs.Common.{◌≡◌, ◌+◌, [], ◌∷◌, ◌++◌, sym, subst, arith}
use Rattle.kernel_cdlp.specs.Parts.{places_in, AreParts}
use Rattle.kernel_cdlp.proofs.PartLemmas.{parts_more}
use Rattle.kernel_cdlp.proofs.part.parts_of.Goals as goal

pub parts-preserved : goal.parts-preserved
parts-preserved c =
    let part = c.in_ok-part.part in
    let is = c.in_ok-part.ensures.part in
    let count : places_in part ≡ c.len-in-parts.result = omega (arith, c.len-in-parts.ensures, part.labels.ok) in (
      subst (AreParts c.args.image.now (c.parts.first + c.len-in-parts.result)) (sym c.in_ok-push.ensures.items)
          (subst (λ n. AreParts c.args.image.now (c.parts.first + n) (c.parts.parts.items ++ part ∷ [])) count (parts_more c.args.image.now c.parts.first c.parts.parts.items part c.parts.invariant.0 is c.in_ok-part.ensures.first)),
      (let within = is.within in let first = c.in_ok-part.ensures.first in omega arith),
    )
