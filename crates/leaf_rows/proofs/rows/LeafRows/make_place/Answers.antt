use Rattle.std.proofs.Common.{refl, sym, ◌∙◌, arith}
use Rattle.std.proofs.lemmas.Result.{on_ok_weaker, IfErr-weaker}
use Rattle.leaf_rows.specs.Steps.{keys_with}
use Rattle.leaf_rows.proofs.RoomLemmas.{wanted_is, moved_stays, refused_is}
use Rattle.leaf_rows.proofs.PlacingLemmas.{one_placed}
use Rattle.leaf_rows.proofs.rows.LeafRows.make_place.Goals as goal

pub returns-in-None-clause-ok : goal.returns-in-None-clause-ok
returns-in-None-clause-ok c = λ missing.
    let old = c.self.inside.store in
    let keys = keys_with c.args.at.key c.args.other in
    let none = rw (← c.self.view_is) at missing in
    let fits = rw c.segment.ensures.cell at (c.need_at.ensures.none c.in-None.is) in
    rw (← c.self.view_is) (rw (wanted_is old c.is_sound.ensures.apart c.args.at.key keys) (fits none))

pub returns-clause-stays : goal.returns-clause-stays
returns-clause-stays c = rw (← c.self.view_is) (moved_stays c.self.inside.store c.make_room-made.new.self c.is_sound.ensures.sound c.is_sound-2.ensures.sound c.make_room-made.ensures.moved c.make_room-made.ensures.retired)

pub returns-clause-ok : goal.returns-clause-ok
returns-clause-ok c =
    let old = c.self.inside.store in
    let keys = keys_with c.args.at.key c.args.other in
    let need = rw c.segment.ensures.cell at c.in-Some.ensures.need in
    let is = need.is ∙ sym (wanted_is old c.is_sound.ensures.apart c.args.at.key keys) in
    rw (← c.self.view_is) (on_ok_weaker c.make_room-made.result (λ fits missing. omega (arith, fits, is)) c.make_room-made.ensures.ok)

pub returns-clause-kept : goal.returns-clause-kept
returns-clause-kept c = λ fits.
    let old = c.self.inside.store in
    let keys = keys_with c.args.at.key c.args.other in
    let need = rw c.segment.ensures.cell at c.in-Some.ensures.need in
    let is = need.is ∙ sym (wanted_is old c.is_sound.ensures.apart c.args.at.key keys) in
    let short = need.short in
    let enough = rw (← c.self.view_is) at fits in
    absurd (omega (arith, short, is, enough))

pub returns-clause-full : goal.returns-clause-full
returns-clause-full c =
    let old = c.self.inside.store in
    let keys = keys_with c.args.at.key c.args.other in
    let need = rw c.segment.ensures.cell at c.in-Some.ensures.need in
    let is = need.is ∙ sym (wanted_is old c.is_sound.ensures.apart c.args.at.key keys) in
    IfErr-weaker c.make_room-made.result _ _ (λ refusal why. refused_is old c.make_room-made.new.self c.args.at.key c.in-Some.need keys refusal is need.short why) c.make_room-made.ensures.refused

pub returns-in-None-clause-places : goal.returns-in-None-clause-places
returns-in-None-clause-places c = (0, refl)

pub returns-clause-places : goal.returns-clause-places
returns-clause-places c =
    let old = c.self.inside.store in
    let keys = keys_with c.args.at.key c.args.other in
    let need = rw c.segment.ensures.cell at c.in-Some.ensures.need in
    let is = need.is ∙ sym (wanted_is old c.is_sound.ensures.apart c.args.at.key keys) in
    rw (← c.self.view_is) (one_placed old c.make_room-made.new.self c.args.at.key c.args.other c.in-Some.need c.make_room-made.result need.missing is need.short c.make_room-made.ensures.made c.make_room-made.ensures.refused)
