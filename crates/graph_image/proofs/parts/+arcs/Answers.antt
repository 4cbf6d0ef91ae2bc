use Rattle.std.proofs.Common.{◌∙◌, arith}
use Rattle.graph_image.specs.Parts.{IsPlaceable, IsShareOf}
use Rattle.graph_image.proofs.PartLemmas.{zip_length, front_shared, back_shared, arcs_cut, length_cut, arcs_joined, front_all, back_all}
use Rattle.graph_image.proofs.parts.+arcs.Goals as goal

pub lay_arcs-split_at-requires-2 : goal.lay_arcs-split_at-requires-2
lay_arcs-split_at-requires-2 g t c = (let same = zip_length IsShareOf _ _ c.requires.shares in omega (arith, same))

pub lay_arcs-total_of-share-requires-clause-shares : goal.lay_arcs-total_of-share-requires-clause-shares
lay_arcs-total_of-share-requires-clause-shares g t c = front_shared _ _ c.requires.shares _ _ _ _ _ c.split_at.ensures.front c.split_at.ensures.back c.split_at-2.ensures.front c.split_at-2.ensures.back

pub lay_arcs-total_of-share-requires-clause-few : goal.lay_arcs-total_of-share-requires-clause-few
lay_arcs-total_of-share-requires-clause-few g t c = (let cut = length_cut _ _ _ _ c.split_at.ensures.front c.split_at.ensures.back in omega (arith, cut, c.requires.short))

pub lay_arcs-split_at_mut-front_arcs-requires : goal.lay_arcs-split_at_mut-front_arcs-requires
lay_arcs-split_at_mut-front_arcs-requires g t c = (let cut = arcs_cut _ _ _ _ c.split_at.ensures.front c.split_at.ensures.back in omega (arith, cut, c.total_of-share.ensures.arcs, c.requires.arcs))

pub lay_arcs-both_arcs-requires-clause-front : goal.lay_arcs-both_arcs-requires-clause-front
lay_arcs-both_arcs-requires-clause-front g t c κs within = record {
  shares_are = front_shared _ _ c.requires.shares _ _ _ _ _ c.split_at.ensures.front c.split_at.ensures.back c.split_at-2.ensures.front c.split_at-2.ensures.back;
  short = (let cut = length_cut _ _ _ _ c.split_at.ensures.front c.split_at.ensures.back in omega (arith, cut, c.requires.short));
  placeable = front_all _ _ _ _ c.split_at.ensures.front c.split_at.ensures.back (IsPlaceable c.args.vertices.now) c.requires.placeable;
  arc_room = c.split_at_mut-front_arcs.ensures.front_len ∙ c.total_of-share.ensures.arcs;
}

pub lay_arcs-both_arcs-requires-clause-back : goal.lay_arcs-both_arcs-requires-clause-back
lay_arcs-both_arcs-requires-clause-back g t c κs within = record {
  shares_are = back_shared _ _ c.requires.shares _ _ _ _ _ c.split_at.ensures.front c.split_at.ensures.back c.split_at-2.ensures.front c.split_at-2.ensures.back;
  short = (let cut = length_cut _ _ _ _ c.split_at.ensures.front c.split_at.ensures.back in omega (arith, cut, c.requires.short));
  placeable = back_all _ _ _ _ c.split_at.ensures.front c.split_at.ensures.back (IsPlaceable c.args.vertices.now) c.requires.placeable;
  arc_room = (let cut = arcs_cut _ _ _ _ c.split_at.ensures.front c.split_at.ensures.back in omega (arith, cut, c.total_of-share.ensures.arcs, c.requires.arcs, c.split_at_mut-front_arcs.ensures.back_len));
}

pub lay_arcs-returns : goal.lay_arcs-returns
lay_arcs-returns g t c = arcs_joined _ _ _ _ c.split_at.ensures.front c.split_at.ensures.back c.args.vertices.now _ _ c.both_arcs.ensures.front_arcs c.both_arcs.ensures.back_arcs
