use Rattle.std.proofs.Common.{◌∙◌, refl}
use Rattle.pass_steps.specs.Passes.{pin_of, state_of}
use Rattle.pass_steps.proofs.HandLemmas.{hand_seen, journal_told, refresh_sees}
use Rattle.pass_steps.proofs.PassLemmas.{same_after, same_then}
use Rattle.pass_steps.proofs.seen.refresh.Goals as goal

pub see_journal-clock-requires : goal.see_journal-clock-requires
see_journal-clock-requires g c =
    let t = c.take_journal-held.ensures.taken in
    record { taken = (state_of c.args.pass.now, pin_of c.args.pass.now, t.0, t.1) }

pub give_journal-requires-clause-taken : goal.give_journal-requires-clause-taken
give_journal-requires-clause-taken g c =
    let store = c.args.store.now in
    let st = state_of c.args.pass.now in
    let x = pin_of c.args.pass.now in
    let t = c.take_journal-held.ensures.taken in
    let p1 = c.take_journal-held.new.pass in
    let told = journal_told store p1 st x t.0 c.see_journal-clock.result t.1 c.see_journal-clock.ensures.told in
    let seen = hand_seen store p1 c.see_journal-clock.new.pass st x t.0 t.1 told.legal
    c.see_journal-clock.ensures.seen in
    (_, _, t.0, seen, t.2)

pub returns-clause-seen : goal.returns-clause-seen
returns-clause-seen g c =
    let store = c.args.store.now in
    let st = state_of c.args.pass.now in
    let x = pin_of c.args.pass.now in
    let t = c.take_journal-held.ensures.taken in
    let p1 = c.take_journal-held.new.pass in
    let told = journal_told store p1 st x t.0 c.see_journal-clock.result t.1 c.see_journal-clock.ensures.told in
    let seen = hand_seen store p1 c.see_journal-clock.new.pass st x t.0 t.1 told.legal
    c.see_journal-clock.ensures.seen in
    refresh_sees store.accounts.config st _ t.0 c.see_journal-clock.result told
    (c.give_journal.ensures.state ∙ seen.state)

pub returns-clause-pin : goal.returns-clause-pin
returns-clause-pin g c =
    let store = c.args.store.now in
    let st = state_of c.args.pass.now in
    let x = pin_of c.args.pass.now in
    let t = c.take_journal-held.ensures.taken in
    let p1 = c.take_journal-held.new.pass in
    let told = journal_told store p1 st x t.0 c.see_journal-clock.result t.1 c.see_journal-clock.ensures.told in
    let seen = hand_seen store p1 c.see_journal-clock.new.pass st x t.0 t.1 told.legal
    c.see_journal-clock.ensures.seen in
    c.give_journal.ensures.pin ∙ seen.pin

pub returns-clause-same : goal.returns-clause-same
returns-clause-same g c =
    let p1 = c.take_journal-held.new.pass in
    let seen = same_after c.args.store.now p1 c.see_journal-clock.new.pass _ c.see_journal-clock.ensures.seen refl in
    same_then _ _ _ (same_then _ _ _ c.take_journal-held.ensures.same seen) c.give_journal.ensures.same
