use Rattle.std.proofs.Common.{◌+◌, length, take, sym, ap, subst, arith}
use Rattle.std.proofs.lemmas.Option.{slice_get-get_or}
use Rattle.graph_image.specs.Entries.{AreEntries}
use Rattle.graph_image.proofs.EntryLemmas.{entries_more}
use Rattle.graph_image.proofs.table.table_of.Goals as goal

pub places-preserved : goal.places-preserved
places-preserved c =
    let within = c.places-test.true in
    subst (λ es. AreEntries (take (c.places.i + 1) c.vertices-vertices.result.now) c.args.values.now es) (sym c.in_ok-push.ensures.items)
    (entries_more c.vertices-vertices.result.now c.args.values.now c.places.i c.places.entries.items _ _ c.places.invariant within
    (slice_get-get_or c.vertices-vertices.result.now c.places.i _ within) (slice_get-get_or c.args.values.now c.places.i _ (omega (arith, within, c.requires, ap length c.vertices-vertices.ensures.ids))))
