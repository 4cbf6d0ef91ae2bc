use Rattle.std.proofs.Common.{◌≡◌, ◌∙◌, ◌+◌, sym, ap, subst}
use Rattle.store_rule.specs.StoreRelation.Passes.{name_at}
use Rattle.store_rule.specs.StoreRelation.Shared.{entry_of}
use Rattle.store_rule.specs.StoreRelation.Steps.{committing, with_entry}
use Rattle.store_rule.specs.Slots.{IsListOf}
use Rattle.pass_steps.specs.Passes.{pin_of, state_of}
use Rattle.pass_steps.proofs.HandLemmas.{clock_told, hand_published, hand_stamped, list_published}
use Rattle.pass_steps.proofs.PassLemmas.{taken_own, taken_same}
use Rattle.pass_steps.proofs.committing.enter.Goals as goal

pub load_clock-clock-requires : goal.load_clock-clock-requires
load_clock-clock-requires g c =
    let t = c.take_journal-held.ensures.taken in
    record { taken = (state_of c.args.pass.now, pin_of c.args.pass.now, t.0, t.1) }

pub store_stamp-requires-clause-taken : goal.store_stamp-requires-clause-taken
store_stamp-requires-clause-taken g c =
    let store = c.args.store.now in
    let st = state_of c.args.pass.now in
    let x = pin_of c.args.pass.now in
    let t = c.take_journal-held.ensures.taken in
    let p1 = c.take_journal-held.new.pass in
    let p2 = c.load_clock-clock.new.pass in
    let same = taken_same store p1 p2 st x t.0 t.1 c.load_clock-clock.ensures.same in
    let told = clock_told store p1 st x t.0 c.load_clock-clock.result t.1 c.load_clock-clock.ensures.told in
    (t.0, taken_own store p2 st x t.0 same, t.2.next, told.is)

pub publish-requires-clause-taken : goal.publish-requires-clause-taken
publish-requires-clause-taken g c =
    let store = c.args.store.now in
    let st = state_of c.args.pass.now in
    let x = pin_of c.args.pass.now in
    let t = c.take_journal-held.ensures.taken in
    let p1 = c.take_journal-held.new.pass in
    let p2 = c.load_clock-clock.new.pass in
    let p3 = c.store_stamp.new.pass in
    let same = taken_same store p1 p2 st x t.0 t.1 c.load_clock-clock.ensures.same in
    let told = clock_told store p1 st x t.0 c.load_clock-clock.result t.1 c.load_clock-clock.ensures.told in
    let stamped = hand_stamped store p2 p3 st x t.0 same c.store_stamp.ensures in
    (with_entry t.0 p2.number st, taken_own store p3 (committing st) x (with_entry t.0 p2.number st) stamped, told.is)

pub give_journal-requires-clause-taken : goal.give_journal-requires-clause-taken
give_journal-requires-clause-taken g c =
    let store = c.args.store.now in
    let st = state_of c.args.pass.now in
    let x = pin_of c.args.pass.now in
    let t = c.take_journal-held.ensures.taken in
    let p1 = c.take_journal-held.new.pass in
    let p2 = c.load_clock-clock.new.pass in
    let p3 = c.store_stamp.new.pass in
    let same = taken_same store p1 p2 st x t.0 t.1 c.load_clock-clock.ensures.same in
    let told = clock_told store p1 st x t.0 c.load_clock-clock.result t.1 c.load_clock-clock.ensures.told in
    let stamped = hand_stamped store p2 p3 st x t.0 same c.store_stamp.ensures in
    let j' = with_entry t.0 p2.number st in
    let done = hand_published store p3 c.publish.new.pass (committing st) x j' stamped c.publish.ensures.legal
    c.publish.ensures.published in
    let number : p2.number ≡ c.args.pass.now.number =
    c.load_clock-clock.ensures.same.number ∙ c.take_journal-held.ensures.same.number in
    let entry : _ ≡ entry_of t.0 p2.number st = (λ i. record {
      stamp = ap (λ n. n + 1) told.is i;
      start = c.requires.begun.1 i;
      by = (c.requires.begun.0 ∙ (λ k. name_at (sym number k) st)) i;
      writes = c.requires.writes.0 i;
    }) in (
      _,
      _,
      _,
      done,
      list_published t.0 p2.number st _ _ _ (subst (IsListOf t.0) (sym c.deref_mut-journal.ensures.value) t.2) entry
          c.push_within.ensures.put
          c.push_within.ensures.spare,
    )
