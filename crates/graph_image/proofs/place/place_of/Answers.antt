use Rattle.std.proofs.Common.{◌<◌, length, refl, arith}
use Rattle.graph_image.proofs.PlaceLemmas.{consecutive, search_found, search_absent}
use Rattle.graph_image.proofs.place.place_of.Goals as goal

pub returns-then-last-first-clause-found : goal.returns-then-last-first-clause-found
returns-then-last-first-clause-found c =
    let some : 0 < length c.args.ids.now = omega (arith, c.if-count-eq0.false) in
    consecutive c.args.ids.now c.requires (length c.args.ids.now) _ _ c.args.id refl some refl refl c.if-id-first.false c.if-last-id.false c.if-last-first.true

pub returns-clause-found : goal.returns-clause-found
returns-clause-found c =
    rw c.ok.ensures.value (search_found c.args.ids.now c.requires c.args.id c.binary_search.result c.binary_search.ensures.position)

pub returns-clause-absent : goal.returns-clause-absent
returns-clause-absent c =
    rw c.ok.ensures.value (search_absent c.args.ids.now c.requires c.args.id c.binary_search.result c.binary_search.ensures.position)
