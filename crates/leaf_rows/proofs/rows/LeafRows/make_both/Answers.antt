use Rattle.std.specs.Prelude.{Ok}
use Rattle.std.proofs.lemmas.Result.{err_from_is_err_and, on_ok_weaker}
use Rattle.leaf_rows.proofs.RoomLemmas.{stays_chain, three_steps, two_steps}
use Rattle.leaf_rows.proofs.PlacingLemmas.{places_swap, steps_then}
use Rattle.leaf_rows.proofs.rows.LeafRows.make_both.Goals as goal

pub returns-clause-ok : goal.returns-clause-ok
returns-clause-ok c =
    let one = c.make_place.ensures in
    let two = c.make_place-2.ensures in
    let three = c.make_place-made.ensures in
    let there = rw c.self-2.view_is at c.is_sound-2.ensures.there in
    let apart = rw c.self-2.view_is at c.is_sound-2.ensures.apart in
    on_ok_weaker c.make_place-made.result (λ fits.
    three_steps c.args.self.now c.make_place.new.self c.make_place-2.new.self c.make_place-made.new.self one.there two.there three.there there apart c.args.first.key c.args.second.key c.requires.first c.requires.second
    one.stays two.stays three.stays two.room three.room c.in_ok-make_place.ensures.ok c.in_ok-make_place-2.ensures.ok fits three.kept) three.ok

pub returns-then-has_place-clause-ok : goal.returns-then-has_place-clause-ok
returns-then-has_place-clause-ok c =
    let one = c.make_place.ensures in
    let there = rw c.self.view_is at c.is_sound.ensures.there in
    let apart = rw c.self.view_is at c.is_sound.ensures.apart in
    two_steps c.args.self.now c.make_place.new.self one.there there apart c.args.first.key c.args.second.key c.requires.first c.requires.second one.stays c.in_ok-make_place.ensures.ok (c.has_place.ensures c.if-has_place.true)

pub returns-in_err-make_place-2-clause-places : goal.returns-in_err-make_place-2-clause-places
returns-in_err-make_place-2-clause-places c =
    let said = err_from_is_err_and c.from_residual-in_err-make_place-2.result c.from_residual-in_err-make_place-2.ensures.1 in
    steps_then _ _ _ _ c.from_residual-in_err-make_place-2.result c.in_ok-make_place.ensures.places
    (places_swap c.args.second.key c.args.first.key _ _ c.from_residual-in_err-make_place-2.result (rw (said.1, said.2) c.in_err-make_place-2.ensures.places))

pub returns-clause-stays : goal.returns-clause-stays
returns-clause-stays c = stays_chain _ _ _ c.make_place.ensures.stays (stays_chain _ _ _ c.make_place-2.ensures.stays c.make_place-made.ensures.stays)

pub returns-clause-places : goal.returns-clause-places
returns-clause-places c =
    steps_then _ _ _ _ c.make_place-made.result c.in_ok-make_place.ensures.places
    (steps_then _ _ _ _ c.make_place-made.result (places_swap c.args.second.key c.args.first.key _ _ (Ok tt) c.in_ok-make_place-2.ensures.places) c.make_place-made.ensures.places)
