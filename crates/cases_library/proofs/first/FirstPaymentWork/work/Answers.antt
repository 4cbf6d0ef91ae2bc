use Rattle.teseo_store.proofs.Sessions.PropLemmas.{has_open}
use Rattle.cases_library.proofs.PaymentLemmas.{committed_payment}
use Rattle.cases_library.proofs.first.FirstPaymentWork.work.Goals as goal

pub returns-in-Ok-open_and_pay : goal.returns-in-Ok-open_and_pay
returns-in-Ok-open_and_pay g c =
    let account = g.E.Engine.account in
    let begun = c.in-Ok.txn in
    let made = c.open_and_pay.new.txn in
    λ none. committed_payment (account c.args.session.engine) (account begun.engine) (account made.engine) _
    begun.begun.start made.begun.start _ c.in-Ok.ensures.begun.opened c.in-Ok-open_and_pay.ensures
    (has_open g.P.SessionPlace.number made.begun.start (account made.engine) made.is).opened c.commit-session.ensures
