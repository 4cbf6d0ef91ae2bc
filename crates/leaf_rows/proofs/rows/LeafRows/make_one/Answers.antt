use Rattle.std.proofs.Common.{None, sym, ◌∙◌, arith}
use Rattle.std.proofs.lemmas.Result.{on_ok_weaker}
use Rattle.leaf_rows.proofs.RoomLemmas.{one_has_room, wants_itself}
use Rattle.leaf_rows.proofs.rows.LeafRows.make_one.Goals as goal

pub returns-clause-ok : goal.returns-clause-ok
returns-clause-ok c =
    let made = c.make_place-made.ensures in
    on_ok_weaker c.make_place-made.result (λ fits.
    one_has_room c.make_place-made.new.self (rw c.self.view_is at c.is_sound.ensures.apart) c.args.at.key (λ none.
    let before = sym (made.stays.rows c.args.at.key) ∙ none in
    let wants = wants_itself c.args.self.now made.there c.args.at.key c.requires None before in
    let room = fits before in
    omega (arith, wants, room)
    )) made.ok
