use Rattle.std.proofs.Common.{◌≤◌, ◌∙◌, arith, refl, subst, sym}
use Rattle.store_rule.specs.StoreRelation.Shared.{JournalState}
use Rattle.store_rule.specs.RuleModel.Places.{lines}
use Rattle.store_rule.specs.RuleModel.Sight.{with_journal}
use Rattle.store_rule.proofs.RuleModel.TxnLemmas.{room_is_made}
use Rattle.store_rule.specs.Passes.{OnlyAccount}
use Rattle.pass_steps.specs.Passes.{journal_in}
use Rattle.pass_steps.proofs.PassLemmas.{taken_journal}
use Rattle.pass_steps.proofs.SightLemmas.{journal_is, journal_there}
use Rattle.pass_steps.proofs.beginning.make_room.Goals as goal

pub change-requires-clause-may : goal.change-requires-clause-may
change-requires-clause-may c heap =
    let z = c.args.store.now.accounts.config in
    let seat = c.args.pass.now.account in
    let v = seat.me.0 in
    let t = c.requires.taken in
    let more = c.reserve.ensures.spare in
    let room = t.4.room in
    let le : (journal_in v).room ≤ c.reserve.new.self.spare =
    subst (λ (u : JournalState). u.room ≤ c.reserve.new.self.spare) (sym (journal_is v t.2 t.3.journal))
    (omega (arith, room, more)) in
    room_is_made z (lines z.passes) heap seat.table_id.slots seat.id seat.me (journal_in v) c.reserve.new.self.spare
    (journal_there v t.2 t.3.journal) le

pub returns-clause-ok : goal.returns-clause-ok
returns-clause-ok c st x j taken list =
    let v = c.args.pass.now.account.me.0 in
    let spare = c.reserve.new.self.spare in
    let j' : JournalState = record j { room = spare } in
    let step : OnlyAccount c.args.pass.now c.change.new.pass (with_journal v j') =
    subst (λ (u : JournalState). OnlyAccount c.args.pass.now c.change.new.pass
    (with_journal v (record u { room = spare }))) (journal_is v j taken.journal) c.change.ensures.changed in (
      j',
      taken_journal c.args.store.now c.args.pass.now c.change.new.pass st x j taken j' step,
      record { commits = c.reserve.ensures.kept ∙ list.commits; next = list.next; room = omega arith },
      refl,
      c.in_ok-reserve.ensures.ok,
    )
