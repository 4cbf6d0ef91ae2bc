use Rattle.std.proofs.Common.{length, refl}
use Rattle.std.proofs.lemmas.Option.{slice_get_read}
use Rattle.kernel_sssp.proofs.SearchLemmas.{stepped}
use Rattle.kernel_sssp.proofs.search.BucketSearch.step.Goals as goal

pub visit-requires-clause-visit : goal.visit-requires-clause-visit
visit-requires-clause-visit c =
    let s = c.args.self.now in
    c.requires.search.visits_right s.stage.made c.index-visit.result.now (slice_get_read s.visits.items (length s.visits.items) s.stage.made c.index-visit.result.now refl c.requires.left c.index-visit.ensures)

pub returns : goal.returns
returns c =
    let s = c.args.self.now in
    stepped c.args.image.now c.index-visit.result.now s c.visit.new.self
    (slice_get_read s.visits.items (length s.visits.items) s.stage.made c.index-visit.result.now refl c.requires.left c.index-visit.ensures)
    c.in_ok-visit.ensures
