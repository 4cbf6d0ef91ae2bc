-- What reads, writes and prunes do to one row's versions. Each law is the contract of a function in `laws`.
use Rattle.std.specs.Prelude.{◌≡◌, ℕ, ◌≤◌, false, Option, Some}
use Rattle.graph_model.specs.declared.journal.TxnName.{TxnName}
use Rattle.graph_model.specs.Transactions.{reached}
use Rattle.store_model.specs.declared.versions.Versions.{Versions}
use Rattle.store_model.specs.Versions.{sees, read, write, undo, touch, prune}
use Rattle.store_model.specs.Stamped.{StampedVersions, IsStamped, AreTold, forget_row, read_stamped, prune_stamped, stamp}

-- a transaction sees what it wrote
abbrev pub OwnWriteIsSeen : Type 0
OwnWriteIsSeen =
    (stamps : TxnName → Option ℕ) (start : ℕ) (own : TxnName) (value : Option ℕ) (vs : Versions)
    → read stamps start own (write own value vs) ≡ value

-- and not what one wrote that it doesn't see
abbrev pub OtherWriteIsNotSeen : Type 0
OtherWriteIsNotSeen =
    (stamps : TxnName → Option ℕ) (start : ℕ) (own by : TxnName) (value : Option ℕ) (vs : Versions)
    → sees stamps start own by ≡ false
    → read stamps start own (write by value vs) ≡ read stamps start own vs

-- an undo takes a write back
abbrev pub UndoTakesBack : Type 0
UndoTakesBack = (by : TxnName) (value : Option ℕ) (vs : Versions) → undo (write by value vs) ≡ vs

-- touches are not read
abbrev pub TouchIsNotRead : Type 0
TouchIsNotRead =
    (stamps : TxnName → Option ℕ) (start : ℕ) (own by : TxnName) (vs : Versions)
    → read stamps start own (touch by vs) ≡ read stamps start own vs

-- a prune changes no value for a start at or above its horizon
abbrev pub PruneKeepsValues : Type 0
PruneKeepsValues =
    (stamps : TxnName → Option ℕ) (horizon start : ℕ) (own : TxnName) (vs : Versions) → horizon ≤ start
    → read stamps start own (prune stamps horizon vs) ≡ read stamps start own vs

-- ---- records with stamps

-- a read by the stamps in the records is the read by the writers' stamps
abbrev pub ReadForgetsStamps : Type 0
ReadForgetsStamps =
    (stamps : TxnName → Option ℕ) (start : ℕ) (own : TxnName) (r : StampedVersions) → IsStamped stamps r
    → read_stamped stamps start own r ≡ read stamps start own (forget_row r)

-- so is a prune, and the stamps that it leaves are right
abbrev pub PruneForgetsStamps : Type 0
PruneForgetsStamps =
    (stamps : TxnName → Option ℕ) (horizon : ℕ) (r : StampedVersions) → IsStamped stamps r
    → (forget_row (prune_stamped stamps horizon r) ≡ prune stamps horizon (forget_row r))
    × IsStamped stamps (prune_stamped stamps horizon r)

-- stamping the records of a writer that has committed changes no version, and the stamps are right
abbrev pub StampKeepsVersions : Type 0
StampKeepsVersions =
    (stamps : TxnName → Option ℕ) (by : TxnName) (c : ℕ) (r : StampedVersions) → stamps by ≡ Some c → IsStamped stamps r
    → (forget_row (stamp by c r) ≡ forget_row r) × IsStamped stamps (stamp by c r)

-- right stamps stay right while stamps come only to those who had none
abbrev pub StampsStayRight : Type 0
StampsStayRight =
    (old new : TxnName → Option ℕ) → ((n : TxnName) (c : ℕ) → old n ≡ Some c → new n ≡ Some c)
    → (r : StampedVersions) → IsStamped old r → IsStamped new r

-- whoever is told the same of the writers of records without a stamp reads the same
abbrev pub ToldReadsAgree : Type 0
ToldReadsAgree =
    (a b : TxnName → Option ℕ) (start : ℕ) (own : TxnName) (r : StampedVersions) → AreTold a b start r
    → read_stamped a start own r ≡ read_stamped b start own r

-- and prunes the same
abbrev pub ToldPrunesAgree : Type 0
ToldPrunesAgree =
    (a b : TxnName → Option ℕ) (horizon : ℕ) (r : StampedVersions) → AreTold a b horizon r
    → prune_stamped a horizon r ≡ prune_stamped b horizon r

-- where two agree on every name each row is told the same
abbrev pub AgreedIsTold : Type 0
AgreedIsTold =
    (a b : TxnName → Option ℕ) (start : ℕ) → ((n : TxnName) → reached (a n) start ≡ reached (b n) start)
    → (r : StampedVersions) → AreTold a b start r
