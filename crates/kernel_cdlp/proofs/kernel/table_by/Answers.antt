use Rattle.std.proofs.Common.{◌+◌, length, map, take, get_or, Some, sym, ap, ◌∙◌, subst, arith}
use Rattle.std.proofs.lemmas.Option.{slice_get-get_or}
use Rattle.graph_image.specs.Entries.{AreEntries}
use Rattle.graph_image.proofs.Lists.{map_get}
use Rattle.graph_image.proofs.EntryLemmas.{entries_more}
use Rattle.kernel_cdlp.specs.Rounds.{value_of}
use Rattle.kernel_cdlp.proofs.kernel.table_by.Goals as goal

pub places-preserved : goal.places-preserved
places-preserved c =
    let within = c.places-test.true in
    let label = get_or c.args.labels.now c.places.i 0 in
    let at = slice_get-get_or c.args.labels.now c.places.i 0 (omega (arith, within, c.requires.count, ap length c.vertices-vertices.ensures.ids)) in
    subst (λ es. AreEntries (take (c.places.i + 1) c.vertices-vertices.result.now) (map (value_of c.args.image.now.vertices) c.args.labels.now) es) (sym c.in_ok-push.ensures.items)
    (entries_more c.vertices-vertices.result.now (map (value_of c.args.image.now.vertices) c.args.labels.now) c.places.i c.places.entries.items _ _ c.places.invariant within
    (slice_get-get_or c.vertices-vertices.result.now c.places.i _ within)
    (map_get (value_of c.args.image.now.vertices) c.args.labels.now c.places.i label at ∙ ap (λ ids. Some (value_of ids label)) (sym c.vertices-vertices.ensures.ids)))
