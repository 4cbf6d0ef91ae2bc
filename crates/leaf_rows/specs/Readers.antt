-- What a transaction finds in rows: values of its snapshot, and who stands against its writes.
use Rattle.std.specs.Prelude.{◌≡◌, ℕ, Bool, List, Option, None, is_some}
use Rattle.graph_model.specs.declared.row.Key.{Key}
use Rattle.graph_model.specs.declared.journal.TxnName.{TxnName}
use Rattle.graph_model.specs.declared.refusal.Cause.{Cause}
use Rattle.graph_model.specs.Graph.{Graph}
use Rattle.graph_model.specs.Rows.{value_at}
use Rattle.graph_model.specs.Transactions.{stamp_in}
use Rattle.txn_manager.specs.Manager.{open_start}
use Rattle.std.specs.List.{AllByRecursion}
use Rattle.store_model.specs.Stamped.{Stamped, StampedVersions}
use Rattle.store_model.specs.declared.versions.Versions.{Versions}
use Rattle.store_model.specs.Versions.{sees, read}
use Rattle.store_model.specs.Check.{check}
use Rattle.leaf_rows.specs.declared.reader.Reader.{Reader}
use Rattle.leaf_store.specs.Leaves.{Leaves, contents_of, versions_of}

-- the snapshot sees what this transaction wrote
abbrev pub sees_for : Reader → TxnName → Bool
sees_for r by = sees (stamp_in r.manager.now.journal) r.start r.by by

-- the value of a row for the reader
abbrev pub value_for : Reader → Versions → Option ℕ
value_for r vs = read (stamp_in r.manager.now.journal) r.start r.by vs

-- who of the writers stands against a write of the reader
abbrev pub cause_for : Reader → List TxnName → Option Cause
cause_for r names =
    check (λ n. is_some (open_start r.manager.now n)) (stamp_in r.manager.now.journal) r.start r.by names

-- the reader sees this graph in the rows
abbrev pub Shows : Reader → Leaves → Graph → Type 0
Shows r rows g = (k : Key) → value_for r (contents_of rows k) ≡ value_at g k

-- no record of these has a stamp
abbrev pub HaveNoStamp : List Stamped → Type 0
HaveNoStamp ps = AllByRecursion (λ p. p.stamp ≡ None) ps

-- no record of a row has a stamp
pub record IsUnstamped (vs : StampedVersions) : Type 0 where
  pub pairs : HaveNoStamp vs.pairs
  pub touches : HaveNoStamp vs.touches

-- no record in the rows has a stamp
pub record AreUnstamped (s : Leaves) : Type 0 where
  pub pairs : (k : Key) → HaveNoStamp (versions_of s k).pairs
  pub touches : (k : Key) → HaveNoStamp (versions_of s k).touches
