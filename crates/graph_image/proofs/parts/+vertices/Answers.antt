use Rattle.std.proofs.Common.{◌+◌, ap, ◌∙◌, arith}
use Rattle.graph_image.specs.Parts.{IsShareOf}
use Rattle.graph_image.proofs.PartLemmas.{zip_length, front_shared, back_shared, vertices_cut, arcs_cut, length_cut, ids_joined, starts_joined}
use Rattle.graph_image.proofs.parts.+vertices.Goals as goal

pub lay_vertices-split_at-requires-2 : goal.lay_vertices-split_at-requires-2
lay_vertices-split_at-requires-2 g t c = (let same = zip_length IsShareOf _ _ c.requires.fit.shares_are in omega (arith, same))

pub lay_vertices-total_of-share-requires-clause-shares : goal.lay_vertices-total_of-share-requires-clause-shares
lay_vertices-total_of-share-requires-clause-shares g t c = front_shared _ _ c.requires.fit.shares_are _ _ _ _ _ c.split_at.ensures.front c.split_at.ensures.back c.split_at-2.ensures.front c.split_at-2.ensures.back

pub lay_vertices-total_of-share-requires-clause-few : goal.lay_vertices-total_of-share-requires-clause-few
lay_vertices-total_of-share-requires-clause-few g t c = (let cut = length_cut _ _ _ _ c.split_at.ensures.front c.split_at.ensures.back in omega (arith, cut, c.requires.fit.short))

pub lay_vertices-split_at_mut-front_vertices-requires : goal.lay_vertices-split_at_mut-front_vertices-requires
lay_vertices-split_at_mut-front_vertices-requires g t c = (let cut = vertices_cut _ _ _ _ c.split_at.ensures.front c.split_at.ensures.back in omega (arith, cut, c.total_of-share.ensures.vertices, c.requires.fit.vertex_room))

pub lay_vertices-split_at_mut-front_starts-requires : goal.lay_vertices-split_at_mut-front_starts-requires
lay_vertices-split_at_mut-front_starts-requires g t c = (let cut = vertices_cut _ _ _ _ c.split_at.ensures.front c.split_at.ensures.back in omega (arith, cut, c.total_of-share.ensures.vertices, c.requires.fit.start_room))

pub lay_vertices-overflow_add-behind : goal.lay_vertices-overflow_add-behind
lay_vertices-overflow_add-behind g t c = (let cut = arcs_cut _ _ _ _ c.split_at.ensures.front c.split_at.ensures.back in omega (arith, cut, c.total_of-share.ensures.arcs, c.requires.fit.few))

pub lay_vertices-both_vertices-requires-clause-front : goal.lay_vertices-both_vertices-requires-clause-front
lay_vertices-both_vertices-requires-clause-front g t c κs within = record {
  shares_are = front_shared _ _ c.requires.fit.shares_are _ _ _ _ _ c.split_at.ensures.front c.split_at.ensures.back c.split_at-2.ensures.front c.split_at-2.ensures.back;
  few = (let cut = arcs_cut _ _ _ _ c.split_at.ensures.front c.split_at.ensures.back in omega (arith, cut, c.requires.fit.few));
  short = (let cut = length_cut _ _ _ _ c.split_at.ensures.front c.split_at.ensures.back in omega (arith, cut, c.requires.fit.short));
  vertex_room = c.split_at_mut-front_vertices.ensures.front_len ∙ c.total_of-share.ensures.vertices;
  start_room = c.split_at_mut-front_starts.ensures.front_len ∙ c.total_of-share.ensures.vertices;
}

pub lay_vertices-both_vertices-requires-clause-back : goal.lay_vertices-both_vertices-requires-clause-back
lay_vertices-both_vertices-requires-clause-back g t c κs within =
    let cut = vertices_cut _ _ _ _ c.split_at.ensures.front c.split_at.ensures.back in
    let arcs = arcs_cut _ _ _ _ c.split_at.ensures.front c.split_at.ensures.back in
    let rows = length_cut _ _ _ _ c.split_at.ensures.front c.split_at.ensures.back in
    record {
      shares_are = back_shared _ _ c.requires.fit.shares_are _ _ _ _ _ c.split_at.ensures.front c.split_at.ensures.back c.split_at-2.ensures.front c.split_at-2.ensures.back;
      few = omega (arith, arcs, c.requires.fit.few, c.total_of-share.ensures.arcs);
      short = omega (arith, rows, c.requires.fit.short);
      vertex_room = omega (arith, cut, c.total_of-share.ensures.vertices, c.requires.fit.vertex_room, c.split_at_mut-front_vertices.ensures.back_len);
      start_room = omega (arith, cut, c.total_of-share.ensures.vertices, c.requires.fit.start_room, c.split_at_mut-front_starts.ensures.back_len);
    }

pub lay_vertices-returns-clause-vertices : goal.lay_vertices-returns-clause-vertices
lay_vertices-returns-clause-vertices g t c = ids_joined _ _ _ _ c.split_at.ensures.front c.split_at.ensures.back _ _ c.both_vertices.ensures.front.0 c.both_vertices.ensures.back.0

pub lay_vertices-returns-clause-starts : goal.lay_vertices-returns-clause-starts
lay_vertices-returns-clause-starts g t c = starts_joined _ _ _ _ c.split_at.ensures.front c.split_at.ensures.back c.args.before _ (ap (λ n. c.args.before + n) c.total_of-share.ensures.arcs) _ _ c.both_vertices.ensures.front.1 c.both_vertices.ensures.back.1
