use Rattle.std.proofs.Common.{◌≡◌, length, sym, ap, ◌∙◌, arith}
use Rattle.part_scan.specs.Parts.{rows_in}
use Rattle.graph_image.specs.Parts.{ids_of}
use Rattle.graph_image.proofs.PartLemmas.{length_ids}
use Rattle.graph_image.proofs.PartedLemmas.{few_vertices, all_placeable, all_rise, written_all}
use Rattle.graph_image.proofs.parted.out_of.Goals as goal

pub lay_arcs-requires-clause-rise : goal.lay_arcs-requires-clause-rise
lay_arcs-requires-clause-rise g c κs within =
    let count = ap length c.lay_starts.ensures.vertices ∙ length_ids (rows_in c.args.lists.now) ∙ sym c.total_of-total.ensures.vertices ∙ sym c.in_ok-vertices.ensures.len in
    let is : c.as_slice-4.result.now ≡ ids_of (rows_in c.args.lists.now) = c.as_slice-4.ensures.value ∙ written_all _ _ _ _ c.lay_starts.ensures.vertices count in
    all_rise (rows_in c.args.lists.now) c.requires.storable c.requires.ended c.as_slice-4.result.now is

pub lay_arcs-requires-clause-few : goal.lay_arcs-requires-clause-few
lay_arcs-requires-clause-few g c κs within =
    let count = ap length c.lay_starts.ensures.vertices ∙ length_ids (rows_in c.args.lists.now) ∙ sym c.total_of-total.ensures.vertices ∙ sym c.in_ok-vertices.ensures.len in
    let is : c.as_slice-4.result.now ≡ ids_of (rows_in c.args.lists.now) = c.as_slice-4.ensures.value ∙ written_all _ _ _ _ c.lay_starts.ensures.vertices count in
    let all = ap length is ∙ length_ids (rows_in c.args.lists.now) in
    let few = few_vertices (rows_in c.args.lists.now) c.requires.storable c.requires.ended in
    omega (arith, all, few)

pub lay_arcs-requires-clause-placeable : goal.lay_arcs-requires-clause-placeable
lay_arcs-requires-clause-placeable g c κs within =
    let count = ap length c.lay_starts.ensures.vertices ∙ length_ids (rows_in c.args.lists.now) ∙ sym c.total_of-total.ensures.vertices ∙ sym c.in_ok-vertices.ensures.len in
    let is : c.as_slice-4.result.now ≡ ids_of (rows_in c.args.lists.now) = c.as_slice-4.ensures.value ∙ written_all _ _ _ _ c.lay_starts.ensures.vertices count in
    all_placeable (rows_in c.args.lists.now) c.requires.storable c.requires.ended c.as_slice-4.result.now is
