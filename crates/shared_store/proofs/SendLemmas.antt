-- A pass may go to another thread, and threads may share a store.
use denote.Param.Send.{IsSend, IsSync, recorded_send, recorded_sync, sendable, struct_sync}
use denote.Struct.Declared.{shape}
use Rattle.std.proofs.Crossing.{crosses}
use Rattle.atomic_table.proofs.shared.Seat.TheSendSync as seat
use Rattle.graph_model.proofs.write.Write.TheSendSync as write
use Rattle.items.proofs.roomy.RoomyItems.TheSendSync as roomy
use Rattle.latch_table.proofs.cells.Held.TheSendSync as held
use Rattle.latch_table.proofs.cells.Laid.TheSendSync as laid
use Rattle.latch_table.proofs.table.LatchTable.TheSendSync as latches
use Rattle.leaf_trie.proofs.branch.Branch.TheLaws.TheKnot as trie
use Rattle.pass_writes.proofs.PassCellsMade.CellHints.TheSendSync as hints
use Rattle.pass_writes.proofs.PassCellsMade.TakenCells.TheSendSync as taken
use Rattle.pass_writes.proofs.PassSettlesMade.UnsettledCells.TheSendSync as unsettled
use Rattle.pass_writes.proofs.StoreRuleMade.Buffers.TheSendSync as buffers
use Rattle.pass_writes.proofs.StoreWordsMade.Accounts.TheSendSync as accounts
use Rattle.leaf_rows.proofs.VersionSegmentMade.Resting.TheSendSync as resting
use Rattle.pass_writes.specs.PassCellsContracts.own.PassCells as Cells
use Rattle.pass_writes.specs.StoreRuleContracts.slot.Room as Room
use Rattle.pass_writes.specs.StoreRuleContracts.slot.StoreSlot as Slot
use Rattle.pass_writes.specs.StoreRuleContracts.slot.StoreSlotSlotRoom.TheImpl as slots
use Rattle.pass_writes.specs.StoreRuleContracts.store.Pass as Seats
use Rattle.pass_writes.specs.StoreRuleContracts.store.Store as Store
use Rattle.shared_store.specs.contracts.pass.Pass as Pass

-- what lies in a slot may go to another thread, though the index in it is a tree
pub slot_send : IsSend Slot.the_row
slot_send = search (sendable, crosses, trie.crosses, resting.the_send, seat.the_send) depth 60 fits 100000

seats_field_send : IsSend Seats.the_field.row
seats_field_send = search (sendable, crosses, seat.the_send, buffers.the_send, slot_send) depth 60 fits 100000

cells_field_send : IsSend Cells.the_field.row
cells_field_send =
    search (sendable, crosses, taken.the_field_send, hints.the_send, held.the_send, laid.the_send, slot_send)
    depth 60 fits 100000

pub seats_send : IsSend Seats.the_row
seats_send = recorded_send Seats.the_field.row _ _ Seats.the_type.to_one seats_field_send

pub cells_send : IsSend Cells.the_row
cells_send = recorded_send Cells.the_field.row _ _ Cells.the_type.to_one cells_field_send

pub pass_send : IsSend Pass.the_row
pass_send =
    search (sendable, crosses, seats_field_send, cells_field_send, unsettled.the_send, roomy.the_send, write.the_send)
    depth 60 fits 100000

-- threads may share a store
pub store_sync : IsSync Store.the_row
store_sync =
    recorded_sync Store.the_field.row _ _ Store.the_type.to_one
    (struct_sync (shape Store.the_type) (accounts.the_field_sync, (latches.the_field_sync Slot.the_row Room.the_row slots.ghosts slot_send, tt)))
