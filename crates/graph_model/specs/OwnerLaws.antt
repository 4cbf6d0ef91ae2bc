-- What the exact calls of an engine of one owner mean for the account of the selected pass: what every
-- engine's calls mean. Each is the contract of a function in `owner`, for engines to cite.
use Rattle.std.specs.Prelude.{◌≡◌, ℕ, ◌<◌, length, Option, Result}
use Rattle.graph_model.specs.declared.write.Write.{Write}
use Rattle.graph_model.specs.declared.journal.Begun.{Begun}
use Rattle.graph_model.specs.declared.refusal.Refusal.{Refusal}
use Rattle.graph_model.specs.declared.refusal.BeginRefusal.{BeginRefusal}
use Rattle.graph_model.specs.AccountSteps.{ReadsBy, BeginsBy, WritesBy, CommitsBy, AbortsBy, IsSteady}
use Rattle.graph_model.specs.OwnerCalls.{Core, account_here, BeginsHere, WritesHere, CommitsHere, AbortsHere, ServesHere, one_more}
use Rattle.graph_model.specs.Legal.{IsLegal}

-- the selected pass is one of the passes
abbrev pub IsChosen : Core → Type 0
IsChosen core = core.selected < length core.passes

-- what such an engine takes as its `did_..`: the call on a pass that is there, and a legal journal behind it
pub record IsExact (Here : Type 0) (old new : Core) : Type 0 where
  pub chosen : IsChosen old
  pub here : Here
  pub legal : IsLegal new.kind new.journal

abbrev pub DidBegin : Core → Result Begun BeginRefusal → Core → Type 0
DidBegin old result new = IsExact (BeginsHere old result new) old new

abbrev pub DidWrite : Core → Write → Result (Unit {0}) Refusal → Core → Type 0
DidWrite old w result new = IsExact (WritesHere old w result new) old new

abbrev pub DidRead : Core → Core → Type 0
DidRead old new = IsExact (new ≡ old) old new

abbrev pub DidCommit : Core → Option ℕ → Core → Type 0
DidCommit old result new = IsExact (CommitsHere old result new) old new

abbrev pub DidAbort : Core → Core → Type 0
DidAbort old new = IsExact (AbortsHere old new) old new

abbrev pub DidServe : Core → Core → Type 0
DidServe old new = IsExact (ServesHere old new) old new

-- ---- the laws

abbrev pub OneOwnerBegins : Type 0
OneOwnerBegins = (s t : Core) (r : Result Begun BeginRefusal) → DidBegin s r t
    → BeginsBy (account_here s) r (account_here t) × IsSteady (account_here t) s.served t.served

abbrev pub OneOwnerWrites : Type 0
OneOwnerWrites = (s t : Core) (w : Write) (r : Result (Unit {0}) Refusal) → DidWrite s w r t
    → WritesBy (account_here s) w r (account_here t) × IsSteady (account_here t) s.served t.served

abbrev pub OneOwnerCommits : Type 0
OneOwnerCommits = (s t : Core) (r : Option ℕ) → DidCommit s r t
    → CommitsBy (account_here s) r (account_here t) × IsSteady (account_here t) s.served t.served

abbrev pub OneOwnerAborts : Type 0
OneOwnerAborts = (s t : Core) → DidAbort s t
    → AbortsBy (account_here s) (account_here t) × IsSteady (account_here t) s.served t.served

abbrev pub OneOwnerReads : Type 0
OneOwnerReads = (s t : Core) → DidRead s t
    → ReadsBy (account_here s) (account_here t) × IsSteady (account_here t) s.served t.served

abbrev pub OneOwnerServes : Type 0
OneOwnerServes = (s t : Core) → DidServe s t
    → ReadsBy (account_here s) (account_here t) × IsSteady (account_here t) (one_more s.served) t.served
