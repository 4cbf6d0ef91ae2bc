use Rattle.std.proofs.Common.{◌∙◌, ap}
use Rattle.std.specs.Prelude.{not}
use Rattle.leaf_rows.specs.Steps.{keys_with}
use Rattle.leaf_rows.proofs.RoomLemmas.{none_of, wanted_is}
use Rattle.leaf_rows.proofs.rows.LeafRows.has_place.Goals as goal

pub returns : goal.returns
returns c = λ yes missing.
    let old = c.self.inside.store in
    let keys = keys_with c.args.at.key c.args.other in
    let none = rw (← c.self.view_is) at missing in
    let fits = rw c.segment.ensures.cell at (c.need_at.ensures.none (none_of c.need_at.result (c.is_none.ensures ∙ ap not yes))) in
    rw (← c.self.view_is) (rw (wanted_is old c.is_sound.ensures.apart c.args.at.key keys) (fits none))
