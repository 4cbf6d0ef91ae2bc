use Rattle.std.proofs.Common.{◌+◌, length, map, take, Some, sym, ap, ◌∙◌, subst, arith}
use Rattle.std.proofs.lemmas.Option.{slice_get-get_or}
use Rattle.graph_image.specs.Entries.{AreEntries}
use Rattle.graph_image.proofs.Lists.{map_get}
use Rattle.graph_image.proofs.EntryLemmas.{entries_more}
use Rattle.kernel_bfs.specs.Levels.{value_of}
use Rattle.kernel_bfs.proofs.distances.table_by.Goals as goal

pub places-preserved : goal.places-preserved
places-preserved c =
    let within = c.places-test.true in
    let at = slice_get-get_or c.args.distances.now c.places.i _ (omega (arith, within, c.requires, ap length c.vertices-vertices.ensures.ids)) in
    subst (λ es. AreEntries (take (c.places.i + 1) c.vertices-vertices.result.now) (map value_of c.args.distances.now) es) (sym c.in_ok-push.ensures.items)
    (entries_more c.vertices-vertices.result.now (map value_of c.args.distances.now) c.places.i c.places.entries.items _ _ c.places.invariant within
    (slice_get-get_or c.vertices-vertices.result.now c.places.i _ within) (map_get value_of c.args.distances.now c.places.i _ at ∙ ap Some (sym c.value.ensures)))
