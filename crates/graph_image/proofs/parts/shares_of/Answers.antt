use Rattle.std.proofs.Common.{[], arith}
use Rattle.std.proofs.lemmas.Option.{slice_get-get_or}
use Rattle.graph_image.proofs.PartLemmas.{shared_by_place}
use Rattle.graph_image.proofs.parts.shares_of.Goals as goal

pub returns : goal.returns
returns g c = shared_by_place c.args.lists.now c.in_ok-shares.shares.items (omega (arith, c.in_ok-shares.ensures.len, c.in_ok-shares.shares.ok))
    (λ i e below. (c.in_ok-shares.ensures.each i e below).1.met _ (slice_get-get_or c.args.lists.now i [] below))
