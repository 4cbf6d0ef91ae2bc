use Rattle.std.proofs.Common.{◌∙◌, ap, sym, subst, length, arith}
use Rattle.row_table.specs.HeadMap.Heads.{heads_placed}
use Rattle.version_segment.specs.Resting.{RestingRows, AreErased}
use Rattle.version_segment.proofs.RestLemmas.{count_places, erased_places}
use Rattle.version_segment.proofs.resting.Resting.is_at_rest.Goals as goal

pub returns-clause-small : goal.returns-clause-small
returns-clause-small c =
    let few = c.self.invariant.1 in
    let count = ap (λ (r : RestingRows). length r.rows) (sym c.self.view_is) ∙ count_places c.self.inside.heads.chains c.self.inside.heads.count (heads_placed c.self.inside.heads.heads.entries) in
    omega arith

pub returns-clause-erased : goal.returns-clause-erased
returns-clause-erased c = subst (λ (r : RestingRows). AreErased r.rows) c.self.view_is (erased_places c.self.inside.heads.chains c.self.inside.heads.count (heads_placed c.self.inside.heads.heads.entries))
