use Rattle.std.proofs.Common.{◌<◌, length, refl, arith}
use Rattle.std.proofs.lemmas.Option.{slice_get_read}
use Rattle.std.proofs.lemmas.Bool.Decides.{nat_tests}
use Rattle.cases_store.proofs.VisitLemmas.{ease_at, first_stays}
use Rattle.cases_store.proofs.visits.cells_at_version.Goals as goal

pub count_versions-requires : goal.count_versions-requires
count_versions-requires c =
    let list = c.args.passes.now.items in
    let some : 0 < length list = grind (arith, nat_tests, c.if-is_empty.false, c.is_empty.ensures) in
    ease_at c.args.store.now list c.requires 0 c.index_mut.result.now some c.index_mut.ensures.value

pub returns : goal.returns
returns c =
    let list = c.args.passes.now.items in
    let some : 0 < length list = grind (arith, nat_tests, c.if-is_empty.false, c.is_empty.ensures) in
    first_stays c.args.store.now list c.index_mut.result.now c.count_versions.new.pass c.requires
    (slice_get_read list (length list) 0 c.index_mut.result.now refl some c.index_mut.ensures.value)
    c.count_versions.ensures
