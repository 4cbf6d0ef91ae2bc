use Rattle.std.proofs.Common.{◌∙◌, sym, ap}
use Rattle.head_map.specs.Heads.{PlacedRow}
use Rattle.head_map.specs.Heads.{PlaceTable, heads_placed, place_key, placed_key, placed_heads}
use Rattle.head_map.proofs.HeadLemmas.{found_at, index_of, heads_there, heads_gap}
use Rattle.head_map.proofs.list.HeadList.get.Goals as goal

pub returns-in-Ok : goal.returns-in-Ok
returns-in-Ok c =
    let row = found_at _ c.self.inside.rows.items c.in-Ok.index (rw c.as_slice.ensures.value at c.in-Ok.ensures) in
    c.heads.ensures ∙ ap (λ (r : PlacedRow). r.heads) (c.index.ensures ∙ index_of c.self.inside.rows.items c.in-Ok.index row.0 c.index.result.now row.1)
    ∙ sym (heads_there placed_key placed_heads c.self.inside.rows.items (place_key c.args.place) c.in-Ok.index row.0 c.self.invariant.rising row.1 (ap place_key row.2))
    ∙ ap (λ (m : PlaceTable). heads_placed m.entries c.args.place) c.self.view_is

pub returns-in-Err : goal.returns-in-Err
returns-in-Err c =
    c.settled.ensures
    ∙ sym (heads_gap placed_key placed_heads c.self.inside.rows.items (place_key c.args.place) _ (rw c.as_slice.ensures.value at c.in-Err.ensures))
    ∙ ap (λ (m : PlaceTable). heads_placed m.entries c.args.place) c.self.view_is
