-- Whom a write meets in the rows of cells that its pass holds, and what the pass notes of them.
use Rattle.std.specs.Prelude.{◌≡◌, ◌⊎◌, ℕ, ◌+◌, ◌-◌, ◌<◌, true, false, Option, Some, None, slice_get}
use Rattle.graph_model.specs.declared.journal.TxnName.{TxnName}
use Rattle.graph_model.specs.declared.write.Write.{Write}
use Rattle.graph_model.specs.Account.{Sighting}
use Rattle.graph_model.specs.Transactions.{reached, stamp_in}
use Rattle.txn_manager.specs.declared.config.Config.{Config}
use Rattle.store_model.specs.Stamped.{Stamped}
use Rattle.store_rule.specs.StoreRelation.Passes.{PassState}
use Rattle.store_rule.specs.StoreRelation.Steps.{meeting, sighting, with_holder, with_meeting, with_sighting}
use Rattle.store_rule.specs.StoreRelation.Words.{has_word}
use Rattle.store_rule.specs.RuleModel.NoteSteps.{LooksAtRecord}
use Rattle.store_rule.specs.RuleModel.Sight.{Sight, with_pass}
use Rattle.pass_steps.specs.Passes.{state_in}

-- ---- whom a write meets

-- the write looks at a record of this transaction, which the snapshot doesn't see
pub record MeetsHolder (z : Config) (v : Sight) (st : PassState) (w : Write) (by : TxnName)
    : Type 0 where
  pub stamped : Stamped
  pub looks : LooksAtRecord z v w stamped
  pub writer : stamped.by ≡ by
  pub unseen : reached (stamp_in st.seen by) st.start ≡ false

-- it looks at a record with this stamp, or at one without a stamp whose writer's word was found to have it
pub record MeetsLater (z : Config) (v : Sight) (st : PassState) (w : Write) (stamp : ℕ) : Type 0 where
  pub stamped : Stamped
  pub looks : LooksAtRecord z v w stamped
  pub found : (stamped.stamp ≡ Some stamp)
      ⊎ ((stamped.stamp ≡ None) × (has_word st.looks stamped.by (stamp + 2) ≡ true) × (0 < stamp))

-- ---- what is noted

-- an open transaction that clashes
abbrev pub holder_found : ℕ → TxnName → Write → Sight → Sight
holder_found p by w v =
    let st = state_in v p in with_pass v p (with_holder st (sighting by w st.start))

abbrev pub named_in : PassState → Option Sighting → PassState
named_in st None = st
named_in st (Some x) = with_sighting st x

-- the one that was found last is named as the cause
abbrev pub last_holder_named : ℕ → Sight → Sight
last_holder_named p v =
    let st = state_in v p in with_pass v p (named_in st (slice_get st.holders 0))

abbrev pub holder_named : ℕ → TxnName → Write → Sight → Sight
holder_named p by w v =
    let st = state_in v p in
    let x = sighting by w st.start in
    with_pass (holder_found p by w v) p (with_sighting (with_holder st x) x)

-- a commit that clashes
abbrev pub later_noted : ℕ → Write → ℕ → Sight → Sight
later_noted p w stamp v =
    with_pass v p (with_meeting (state_in v p) (meeting w (stamp - 1)))
