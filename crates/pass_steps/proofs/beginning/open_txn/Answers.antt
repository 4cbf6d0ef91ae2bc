use Rattle.std.proofs.Common.{◌≡◌, ◌<◌, ◌^◌, subst, sym}
use Rattle.std.specs.Prelude.{IfOk, OnErr, true}
use Rattle.store_rule.specs.StoreRelation.Passes.{PassState, number_of}
use Rattle.store_rule.specs.RuleModel.Sight.{PinState}
use Rattle.store_rule.specs.Slots.{IsListOf}
use Rattle.pass_steps.specs.Journal.{HasTaken}
use Rattle.pass_steps.specs.Passes.{HasNoTxn}
use Rattle.pass_steps.specs.Txns.{Opens}
use Rattle.pass_steps.proofs.PassLemmas.{same_then}
use Rattle.pass_steps.proofs.beginning.open_txn.Goals as goal

pub open_within-opened-requires-clause-taken : goal.open_within-opened-requires-clause-taken
open_within-opened-requires-clause-taken g c =
    let t = c.take_journal-held.ensures.taken in (
      t.0,
      subst (λ (u : PassState × PinState). HasTaken c.args.store.now c.take_journal-held.new.pass u.0 u.1 t.0)
          (λ i. (sym t.1.state i, sym t.1.pin i)) t.1,
      subst (IsListOf t.0) (sym c.deref_mut.ensures.value) t.2,
    )

pub open_within-opened-requires-clause-idle : goal.open_within-opened-requires-clause-idle
open_within-opened-requires-clause-idle g c =
    let t = c.take_journal-held.ensures.taken in
    subst (λ (u : PassState × PinState). HasNoTxn u.0 u.1) (λ i. (sym t.1.state i, sym t.1.pin i)) c.requires.pass.idle

pub open_within-opened-requires-clause-more : goal.open_within-opened-requires-clause-more
open_within-opened-requires-clause-more g c =
    let t = c.take_journal-held.ensures.taken in
    subst (λ (u : PassState). number_of u < c.args.store.now.accounts.config.txns_per_pass) (sym t.1.state)
    c.requires.more

pub returns-clause-ok : goal.returns-clause-ok
returns-clause-ok g c =
    let t = c.take_journal-held.ensures.taken in
    subst (λ (u : PassState × PassState × PinState × PinState). IfOk c.open_within-opened.result
    (λ start. Opens u.0 start u.1 × (u.2 ≡ record u.3 { announced = true }) × (start < 2 ^ 63)))
    (λ i. (t.1.state i, sym c.give_journal.ensures.state i, sym c.give_journal.ensures.pin i, t.1.pin i))
    c.open_within-opened.ensures.ok

pub returns-clause-err : goal.returns-clause-err
returns-clause-err g c =
    let t = c.take_journal-held.ensures.taken in
    subst (λ (u : PassState × PassState × PinState × PinState). OnErr c.open_within-opened.result
    ((u.0 ≡ u.1) × (u.2 ≡ u.3)))
    (λ i. (sym c.give_journal.ensures.state i, t.1.state i, sym c.give_journal.ensures.pin i, t.1.pin i))
    c.open_within-opened.ensures.err

pub returns-clause-same : goal.returns-clause-same
returns-clause-same g c =
    same_then _ _ _ (same_then _ _ _ c.take_journal-held.ensures.same c.open_within-opened.ensures.same)
    c.give_journal.ensures.same
