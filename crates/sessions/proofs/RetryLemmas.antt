-- One try after another.
use Rattle.std.proofs.Common.{ℕ, ap}
use Rattle.std.specs.Prelude.{◌<◌, false, Option, Result, Ok, Err, IfErr, IfOk}
use Rattle.graph_model.specs.Account.{Account}
use Rattle.graph_model.specs.declared.refusal.Refusal.{Refusal}
use Rattle.sessions.specs.Retries.{EndsAfter, FailsOnce, HaveMet, IsCommitted, IsStopped, Making, TellsConflict}
use Rattle.sessions.specs.declared.retry.RetryError.{RetryError}
use Rattle.sessions.specs.declared.retry.RetryError.TheVariants.{NotBegun, Refused, Conflicts}

module _ {C : Type 0} (did : Making C) (number : ℕ) where
  module _ (n tries : ℕ) (old between new : C) (after : Account) (few : n < tries) (met : HaveMet did number n old between)
    where
      pub committed_after : (ended : Result (Option ℕ) RetryError)
          → IfOk ended (λ stamp. IsCommitted did number between new stamp after)
          → IfOk ended (λ stamp. EndsAfter did number tries old (λ last. IsCommitted did number last new stamp after))
      committed_after (Ok stamp) commits =
          record { met = n; few = few; between = between; conflicts = met; last = commits }
      committed_after (Err why) commits = tt

      pub stopped_after : (ended : Result (Option ℕ) RetryError) → TellsConflict ended false
          → IfErr ended (λ why. FailsOnce did number between new why after)
          → IfErr ended (λ why. IsStopped did number tries old new why after)
      stopped_after (Ok stamp) told failed = tt
      stopped_after (Err (NotBegun why)) told failed =
          record { met = n; few = few; between = between; conflicts = met; last = failed }
      stopped_after (Err (Refused why)) told failed = (
        record { met = n; few = few; between = between; conflicts = met; last = failed },
        λ cause is. told cause (ap (λ (r : Refusal). Err (Refused r)) is),
      )
      stopped_after (Err (Conflicts other)) told failed = absurd failed
