use Rattle.std.proofs.Common.{◌++◌, ◌∷◌, [], ap, ◌∙◌, arith}
use Rattle.part_scan.specs.Parts.{rows_in}
use Rattle.graph_image.specs.Parts.{starts_from}
use Rattle.graph_image.proofs.PartLemmas.{vertices_and_arcs}
use Rattle.graph_image.proofs.PartedLemmas.{one_end}
use Rattle.graph_image.proofs.parted.lay_starts.Goals as goal

pub overflow_cast-end : goal.overflow_cast-end
overflow_cast-end g c = (let both = vertices_and_arcs (rows_in c.args.lists.now) in omega (arith, both, c.requires.total.arcs, c.requires.few))

pub lay_vertices-requires-clause-fit : goal.lay_vertices-requires-clause-fit
lay_vertices-requires-clause-fit g c κs within = record {
  shares_are = c.requires.shares;
  few = (let both = vertices_and_arcs (rows_in c.args.lists.now) in omega (arith, both, c.requires.few));
  short = c.requires.few;
  vertex_room = c.requires.vertices;
  start_room = c.split_at_mut-each.ensures.front_len ∙ c.requires.total.vertices;
}

pub returns-clause-starts : goal.returns-clause-starts
returns-clause-starts g c =
    (λ j. c.lay_vertices.ensures.starts j ++ one_end c.split_at_mut-each.result.1.now c.args.total.arcs (omega (arith, c.split_at_mut-each.ensures.back_len, c.requires.starts, c.requires.total.vertices)) j)
    ∙ ap (λ n. starts_from 0 (rows_in c.args.lists.now) ++ n ∷ []) c.requires.total.arcs
