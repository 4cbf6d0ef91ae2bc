-- What the checks of a segment say: where they find nobody the row may be written, and else whom
-- they name.
use Rattle.std.specs.Prelude.{◌≡◌, ◌⊎◌, ℕ, ◌<◌, ◌≤◌, Bool, true, false, nat_le, List, slice_get, Option, Some, None}
use Rattle.std.specs.List.{AllByRecursion}
use Rattle.graph_model.specs.declared.write.Kind.{Kind}
use Rattle.graph_model.specs.declared.write.Write.{Write}
use Rattle.graph_model.specs.declared.write.Write.TheVariants.{DropVertex}
use Rattle.graph_model.specs.declared.row.Key.{Key}
use Rattle.graph_model.specs.declared.journal.TxnName.{TxnName}
use Rattle.graph_model.specs.declared.state.State.{State}
use Rattle.graph_model.specs.declared.state.State.TheVariants.{Live, Committed, Aborted}
use Rattle.graph_model.specs.declared.refusal.Cause.{Cause}
use Rattle.graph_model.specs.declared.refusal.Cause.TheVariants.{Later, Holder}
use Rattle.graph_model.specs.Conflict.{same_name}
use Rattle.graph_model.specs.Effects.{writes_at, touches_at}
use Rattle.graph_model.specs.Transactions.{reached}
use Rattle.store_model.specs.Check.{MayWrite}
use Rattle.store_model.specs.Stamped.{Stamped, StampedVersions, forget_row}
use Rattle.store_model.specs.Versions.{sees}
use Rattle.undo_chain.specs.declared.states.Snapshot.{Snapshot}
use Rattle.undo_chain.specs.States.{Knowledge}
use Rattle.version_segment.specs.Checks.{blocked, IsStateOf, IsChecked, newest_of, newest_and_touches, drops_of}

-- a record's stamp says whether the snapshot sees its writer
abbrev pub IsRightFor : (TxnName → Option ℕ) → ℕ → Stamped → Type 0
IsRightFor stamps start x = (c : ℕ) → x.stamp ≡ Some c
    → reached (stamps x.by) start ≡ nat_le c start

abbrev pub AreSeen : (TxnName → Bool) → List Stamped → Type 0
AreSeen seen xs = AllByRecursion (λ x. seen x.by ≡ true) xs

-- FREE: a check that finds nobody has looked at none but writers that are seen, where no writer of
-- a record without a stamp is said to have aborted
abbrev pub CheckedIsFree : Type 0
CheckedIsFree = (old new : Knowledge) (snapshot : Snapshot) → snapshot.start ≤ old.known
    → ((n : TxnName) → new.vouched n Aborted ≡ false)
    → (xs : List Stamped) → IsChecked old new snapshot xs None
    → AllByRecursion (IsRightFor old.stamps snapshot.start) xs
    → AreSeen (sees old.stamps snapshot.start snapshot.own) xs

-- so a row whose checks for the write have found nobody may be written
abbrev pub FreeMayBeWritten : Type 0
FreeMayBeWritten = (kind : Kind) (seen : TxnName → Bool) (w : Write) (q : Key) (r : StampedVersions)
    → (writes_at kind w q ≡ true → AreSeen seen (newest_of r))
    → (touches_at w q ≡ true → AreSeen seen (drops_of r))
    → (writes_at kind w q ≡ true → w ≡ DropVertex q.src → AreSeen seen (newest_and_touches r))
    → MayWrite kind seen w q (forget_row r)

-- one of the records is the cause
pub record IsCause (old new : Knowledge) (snapshot : Snapshot) (xs : List Stamped) (cause : Cause)
    : Type 0 where
  pub place : ℕ
  pub stamped : Stamped
  pub state : State
  pub at : slice_get xs place ≡ Some stamped
  pub is : IsStateOf old new snapshot.own stamped state
  pub found : blocked snapshot stamped.by state ≡ Some cause

abbrev pub CauseIsFound : Type 0
CauseIsFound = (old new : Knowledge) (snapshot : Snapshot) (xs : List Stamped) (cause : Cause)
    → IsChecked old new snapshot xs (Some cause) → IsCause old new snapshot xs cause

-- a later commit: the record has its stamp, or what was answered of the writer vouches for it
abbrev pub LaterIsStamped : Type 0
LaterIsStamped = (old new : Knowledge) (snapshot : Snapshot) (xs : List Stamped) (stamp : ℕ)
    → (c : IsCause old new snapshot xs (Later stamp))
    → (snapshot.start < stamp)
    × ((c.stamped.stamp ≡ Some stamp)
    ⊎ ((c.stamped.stamp ≡ None) × (new.vouched c.stamped.by (Committed stamp) ≡ true)))

-- an open transaction: its record has no stamp, it is not the asker's own, and no stamp of it was
-- seen
abbrev pub HolderIsOther : Type 0
HolderIsOther = (old new : Knowledge) (snapshot : Snapshot) (xs : List Stamped) (by : TxnName)
    → (c : IsCause old new snapshot xs (Holder by))
    → (c.stamped.by ≡ by) × (c.stamped.stamp ≡ None) × (same_name c.stamped.by snapshot.own ≡ false)
    × (old.stamps c.stamped.by ≡ None) × (new.vouched c.stamped.by Live ≡ true)
