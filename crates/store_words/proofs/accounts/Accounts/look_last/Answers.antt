use Rattle.std.proofs.Common.{sym}
use Rattle.rule_model.specs.StoreRelation.Shared.{JournalState}
use Rattle.rule_model.specs.EndSteps.{HasAll}
use Rattle.rule_model.specs.LastSteps.{IsLastStore}
use Rattle.store_words.proofs.LoadLemmas.{looks_last}
use Rattle.store_words.proofs.StepLemmas.{at_place}
use Rattle.store_words.proofs.accounts.Accounts.look_last.Goals as goal

pub load_as-requires-clause-may : goal.load_as-requires-clause-may
load_as-requires-clause-may c heap =
    let z = c.args.self.now.config in
    let seat = c.args.seat.now in
    at_place z heap seat.table_id.slots seat.id seat.me _ _ (sym c.clock_place-place.ensures.place)
    (λ n. seat.me.0) (λ n. (j : JournalState) → HasAll z seat.me.0 j → IsLastStore z seat.me.0 j)
    (looks_last z heap seat.table_id.slots seat.id seat.me)
