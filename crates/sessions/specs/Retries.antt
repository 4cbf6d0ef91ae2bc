-- A change that is tried again where it meets a conflict, each time in a transaction of its own.
use Rattle.std.specs.Prelude.{◌≡◌, ℕ, zero, suc, ◌<◌, Bool, true, false, Option, Result, Ok, Err}
use Rattle.graph_model.specs.declared.refusal.Cause.{Cause}
use Rattle.graph_model.specs.declared.refusal.Refusal.{Refusal}
use Rattle.graph_model.specs.declared.refusal.Refusal.TheVariants as refusals
use Rattle.graph_model.specs.Account.{Account}
use Rattle.graph_model.specs.AccountSteps.{AbortsBy, BeginsBy, CommitsBy}
use Rattle.sessions.specs.Sessions.{HasNone, HasOpen}
use Rattle.sessions.specs.declared.retry.RetryError.{RetryError}
use Rattle.sessions.specs.declared.retry.RetryError.TheVariants.{NotBegun, Refused, Conflicts}

-- what making a change does: from its own state and the account before to the answer and both after
abbrev pub Making : Type 0 → Type 1
Making C = C → Account → Result (Unit {0}) Refusal → C → Account → Type 0

-- ---- one try

-- the change was made in a transaction that was open, and answered so
pub record Makes {C : Type 0} (did : Making C) (number : ℕ) (old new : C) (answer : Result (Unit {0}) Refusal)
    (made : Account) : Type 0 where
  pub start : ℕ
  pub opened : Account
  pub is_open : HasOpen number start opened
  pub did_so : did old opened answer new made

-- it was made, and its transaction was committed with this stamp, if it wrote anything
pub record IsCommitted {C : Type 0} (did : Making C) (number : ℕ) (old new : C) (stamp : Option ℕ) (after : Account)
    : Type 0 where
  pub made : Account
  pub makes : Makes did number old new (Ok tt) made
  pub commits : CommitsBy made stamp after

-- it was refused, and its transaction was taken back
pub record IsTakenBack {C : Type 0} (did : Making C) (number : ℕ) (old new : C) (why : Refusal) (after : Account)
    : Type 0 where
  pub made : Account
  pub makes : Makes did number old new (Err why) made
  pub aborts : AbortsBy made after

-- why one try has committed nothing
abbrev pub FailsOnce : {C : Type 0} → Making C → ℕ → C → C → RetryError → Account → Type 0
FailsOnce did number old new (NotBegun why) after =
    (new ≡ old) × (before : Account) × HasNone number before × BeginsBy before (Err why) after
FailsOnce did number old new (Refused why) after = IsTakenBack did number old new why after
FailsOnce did number old new (Conflicts tries) after = ⊥

-- the answer of a try that has met a conflict
abbrev pub conflict : Cause → Result (Option ℕ) RetryError
conflict cause = Err (Refused (refusals.Conflict cause))

-- whether a try was answered so
abbrev pub TellsConflict : Result (Option ℕ) RetryError → Bool → Type 0
TellsConflict ended true = (cause : Cause) × (ended ≡ conflict cause)
TellsConflict ended false = (cause : Cause) → ended ≡ conflict cause → ⊥

-- ---- several tries

-- a try that has met a conflict, after those of which `Before` speaks
pub record MeetsAfter {C : Type 0} (did : Making C) (number : ℕ) (Before : C → Type 0) (new : C) : Type 0 where
  pub between : C
  pub before : Before between
  pub cause : Cause
  pub after : Account
  pub taken_back : IsTakenBack did number between new (refusals.Conflict cause) after

-- so many tries have met conflicts, one after the other, and each was taken back
abbrev pub HaveMet : {C : Type 0} → Making C → ℕ → ℕ → C → C → Type 0
HaveMet did number zero old new = new ≡ old
HaveMet did number (suc n) old new = MeetsAfter did number (HaveMet did number n old) new

-- fewer tries than may be made have met conflicts, and then came the last one
pub record EndsAfter {C : Type 0} (did : Making C) (number tries : ℕ) (old : C) (Last : C → Type 0) : Type 0 where
  pub met : ℕ
  pub few : met < tries
  pub between : C
  pub conflicts : HaveMet did number met old between
  pub last : Last between

-- why nothing was committed: the last try has failed, and not by a conflict, or each that may be made has met a conflict
abbrev pub IsStopped : {C : Type 0} → Making C → ℕ → ℕ → C → C → RetryError → Account → Type 0
IsStopped did number tries old new (NotBegun why) after =
    EndsAfter did number tries old (λ between. FailsOnce did number between new (NotBegun why) after)
IsStopped did number tries old new (Refused why) after =
    EndsAfter did number tries old (λ between. FailsOnce did number between new (Refused why) after)
    × ((cause : Cause) → why ≡ refusals.Conflict cause → ⊥)
IsStopped did number tries old new (Conflicts met) after = (met ≡ tries) × HaveMet did number tries old new
