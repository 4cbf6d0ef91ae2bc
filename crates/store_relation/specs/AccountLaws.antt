-- What the steps of a call do to the account of its pass. Each law is the contract of a function in
-- `laws`.
use Rattle.std.specs.Prelude.{◌≡◌, ℕ, ◌+◌, ◌<◌, ◌++◌, List, [], ◌∷◌, length, Option, Some, None}
use Rattle.std.specs.declared.result.Result.TheVariants.{Ok}
use mathlib.Core.List.{IsPrefix}
use Rattle.graph_model.specs.declared.write.Write.{Write}
use Rattle.graph_model.specs.declared.journal.TxnName.{TxnName}
use Rattle.graph_model.specs.declared.journal.Commit.{Commit}
use Rattle.graph_model.specs.declared.refusal.Cause.TheVariants.{Holder}
use Rattle.graph_model.specs.AccountSteps.{GoesOn, ReadsBy, BeginsBy, WritesBy, CommitsBy, AbortsBy, with_cause}
use Rattle.graph_model.specs.History.{view}
use Rattle.graph_model.specs.Refused.{refused}
use Rattle.txn_manager.specs.declared.config.Config.{Config}
use Rattle.store_relation.specs.declared.stage.Stage.TheVariants.{Idle, Open}
use Rattle.store_relation.specs.Passes.{PassState, number_of, name_at, account_of}
use Rattle.store_relation.specs.Shared.{JournalState, entry_of}
use Rattle.store_relation.specs.Steps.{begun, written_by, refreshed, with_sighting, sighting}

-- whatever steps lie between, the transaction has ended with this stamp or with none, and more was
-- seen
pub record EndsWith (stamp : Option ℕ) (old new : PassState) : Type 0 where
  pub opened : old.stage ≡ Open
  pub idle : new.stage ≡ Idle
  pub past : new.past ≡ old.past ++ record { writes = old.own; stamp = stamp } ∷ []
  pub own : new.own ≡ []
  pub seen : IsPrefix old.seen new.seen
  pub sighted : new.sighted ≡ old.sighted
  pub filled : new.filled ≡ old.filled

module _ (z : Config) (p : ℕ) (st : PassState) where
  -- a begin answers the clock that was loaded, and has seen so many commits
  abbrev pub AccountBegins : Type 0
  AccountBegins = (j : JournalState) → st.stage ≡ Idle → st.own ≡ [] → IsPrefix st.seen j.commits
      → number_of st < z.txns_per_pass
      → BeginsBy (account_of z p st)
      (Ok (record { by = name_at p (begun st j); start = length j.commits }))
      (account_of z p (begun st j))

  abbrev pub AccountWrites : Type 0
  AccountWrites = (w : Write) → st.stage ≡ Open
      → refused (view z.kind st.seen st.start st.own) w ≡ None
      → WritesBy (account_of z p st) w (Ok tt) (account_of z p (written_by st w))

  -- a commit answers the stamp of its entry, and has seen it
  abbrev pub AccountCommits : Type 0
  AccountCommits = (j : JournalState) (now : PassState) → 0 < length st.own
      → IsPrefix st.seen j.commits
      → EndsWith (Some (length j.commits + 1)) st now → now.seen ≡ j.commits ++ entry_of j p st ∷ []
      → CommitsBy (account_of z p st) (Some (length j.commits + 1)) (account_of z p now)

  -- one without writes answers none
  abbrev pub AccountCommitsNone : Type 0
  AccountCommitsNone = (now : PassState) → st.own ≡ [] → EndsWith None st now
      → CommitsBy (account_of z p st) None (account_of z p now)

  abbrev pub AccountAborts : Type 0
  AccountAborts = (now : PassState) → EndsWith None st now
      → AbortsBy (account_of z p st) (account_of z p now)

  -- any call may have seen more of the journal
  abbrev pub AccountSees : Type 0
  AccountSees = (seen : List Commit) → IsPrefix st.seen seen
      → ReadsBy (account_of z p st) (account_of z p (refreshed st seen))

  -- a refused write notes the open transaction that it names
  abbrev pub AccountSights : Type 0
  AccountSights = (w : Write) (by : TxnName) (seen : List Commit) → IsPrefix st.seen seen
      → GoesOn (account_of z p st) (with_cause (account_of z p st) st.start w (Holder by))
      (account_of z p (refreshed (with_sighting st (sighting by w st.start)) seen))

-- a law of the account of each pass
abbrev pub OfEachPass : (Config → ℕ → PassState → Type 0) → Type 0
OfEachPass Law = (z : Config) (p : ℕ) (st : PassState) → Law z p st
