-- A reader may go to another thread, and threads may share hints of cells.
use denote.Param.Send.{IsSend, IsSync, sendable}
use denote.Param.SendFields.{declared_send}
use Rattle.std.proofs.Crossing.{crosses}
use Rattle.pass_readers.proofs.PassCellsMade.CellHints.TheSendSync as hints
use Rattle.pass_readers.specs.PassCellsContracts.hints.CellHints as Hints
use Rattle.shared_store.proofs.SendLemmas.{pass_send, store_sync}
use Rattle.optimistic_read.specs.StoreRuleContracts.store.Store as Store
use Rattle.shared_readers.specs.contracts.reader.SnapshotReader as SnapshotReader

-- in the order of its fields
pub reader_send : IsSend SnapshotReader.the_row
reader_send = declared_send SnapshotReader.the_type (pass_send, (search (sendable, crosses) depth 60, tt))

-- as they are named here
pub hints_sync : IsSync Hints.the_row
hints_sync = hints.the_sync

pub shared_store_sync : IsSync Store.the_row
shared_store_sync = store_sync
