-- Where transactions stand, as far as it is known.
use Rattle.std.specs.Prelude.{◌≡◌, ◌⊎◌, ℕ, ◌<◌, ◌≤◌, Bool, true, List, Option, Some, None}
use Rattle.std.specs.List.{AllByRecursion}
use Rattle.graph_model.specs.declared.journal.TxnName.{TxnName}
use Rattle.graph_model.specs.declared.state.State.{State}
use Rattle.graph_model.specs.declared.state.State.TheVariants.{Live, Committed, Aborted}
use Rattle.undo_chain.specs.Records.{UndoRecord}

-- What is known of transactions: all stamps up to a number, and the answers that were given for names.
pub record Knowledge : Type 0 where
  pub known : ℕ
  pub stamps : TxnName → Option ℕ
  -- whom it may be asked for
  pub names : TxnName → Bool
  pub vouched : TxnName → State → Bool

-- a stamp up to the number is answered as it is; for another transaction none of these is answered
abbrev pub IsAnswer : Knowledge → TxnName → State → Type 0
IsAnswer m by Live = m.stamps by ≡ None
IsAnswer m by Aborted = m.stamps by ≡ None
IsAnswer m by (Committed stamp) =
    (m.stamps by ≡ Some stamp) × (stamp ≤ m.known) ⊎ (m.stamps by ≡ None) × (m.known < stamp)

-- only more is vouched for
pub record Grows (old new : Knowledge) : Type 0 where
  pub known : new.known ≡ old.known
  pub stamps : new.stamps ≡ old.stamps
  pub names : new.names ≡ old.names
  pub vouched : (by : TxnName) (state : State) → old.vouched by state ≡ true → new.vouched by state ≡ true

-- whoever wrote a record without a stamp may be asked for
abbrev pub AreNamed : (TxnName → Bool) → List UndoRecord → Type 0
AreNamed names us = AllByRecursion (λ u. u.stamp ≡ None → names u.by ≡ true) us
