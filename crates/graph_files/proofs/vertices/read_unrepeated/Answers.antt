use Rattle.std.proofs.Common.{refl}
use Rattle.graphalytics_io.specs.FieldLines.{field_lines}
use Rattle.graph_files.specs.VertexFiles.{line_id}
use Rattle.graph_files.proofs.UnrepeatedLemmas.{lists_all, ids_unrepeated}
use Rattle.graph_files.proofs.vertices.read_unrepeated.Goals as goal

pub returns-then-are_distinct : goal.returns-then-are_distinct
returns-then-are_distinct c =
    let listed = lists_all line_id (field_lines c.args.text.now) c.lines.lines c.lines.ids c.lines.invariant.lists c.in_default.ensures.0 in
    let distinct = rw (c.if-are_distinct.true, c.in_ok-from_slice.ensures.items, c.as_slice.ensures) at c.are_distinct.ensures in
    ids_unrepeated c.args.limit (field_lines c.args.text.now) c.lines.ids listed (distinct.0 refl) c.lines.invariant.few
