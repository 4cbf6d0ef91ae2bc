-- A worker may go to another thread, where threads may share its handle.
use denote.Param.Send.{IsSend, IsSync, recorded_send, sendable, shr_send}
use denote.Param.SendFields.{as_row_send, declared_send}
use denote.RattleType.{RattleType}
use denote.Ref.{NamedLft, ShrRef}
use denote.Struct.Field.{row_field, shr_ref_field}
use Rattle.std.proofs.Crossing.{crosses}
use Rattle.std.proofs.marker.PhantomData.TheSendSync as phantom
use Rattle.std.proofs.option.Option.TheSendSync as option
use Rattle.std.proofs.sync.Mutex.TheSendSync as lock
use Rattle.std.specs.contracts.sync.Mutex as Lock
use Rattle.latch_table.proofs.cells.Held.TheSendSync as held
use Rattle.latch_table.proofs.cells.Laid.TheSendSync as laid
use Rattle.worker_calls.proofs.LeafArrayMade.Leaf.TheSendSync as leaf
use Rattle.worker_calls.proofs.PassCellsMade.TakenCell.TheSendSync as cell
use Rattle.worker_calls.proofs.scan_place.ScanPlace.TheSendSync as place
use Rattle.rebalance_service.proofs.serve.ServiceKeys.TheSendSync as keys
use Rattle.rebalance_service.proofs.leaf_notes.LeafNotes.TheSendSync as notes
use Rattle.worker_calls.proofs.SharedStore.SendLemmas.{pass_send, slot_send, store_sync}
use Rattle.pass_merges.specs.PassLeavesContracts.own.PassLeaves as Leaves
use Rattle.worker_calls.specs.PassRoomContracts.own.PassRoom as Room
use Rattle.worker_calls.specs.StoreRuleContracts.store.Store as Store
use Rattle.rebalance_service.specs.declared.worker.Home.{Ghosts}
use Rattle.rebalance_service.specs.declared.readers.SharedHandle.{Ghosts as Handles}
use Rattle.rebalance_service.specs.contracts.idle_passes.IdlePasses as Idle
use Rattle.rebalance_service.specs.contracts.readers.Readers as Readers
use Rattle.rebalance_service.specs.contracts.worker.Worker as Worker

-- what it keeps for rows that move
leaves_send : IsSend Leaves.the_field.row
leaves_send = search (sendable, crosses, cell.the_send, held.the_send, laid.the_send, slot_send) depth 60 fits 100000

room_field_send : IsSend Room.the_field.row
room_field_send = search (sendable, crosses, leaves_send, leaf.the_field_send) depth 60 fits 100000

room_send : IsSend Room.the_row
room_send = recorded_send Room.the_field.row _ _ Room.the_type.to_one room_field_send

-- the passes that it shares
idle_send : (H : RattleType) (h : Ghosts H.Denot) → IsSend (Idle.the_row H h)
idle_send H h = declared_send (Idle.the_type H h) (search (sendable, crosses, pass_send) depth 60 fits 100000, (phantom.the_send H, tt))

readers_send : (a : NamedLft) (R H : RattleType) (s : Handles R.Denot) (h : Ghosts H.Denot) → IsSync R
    → IsSend (Readers.the_row a R H s h)
readers_send a R H s h shared =
    declared_send (Readers.the_type a R H s h) (
      as_row_send (row_field (ShrRef a.mir a.lft R)) (shr_send _ _ R shared),
      (
        as_row_send (shr_ref_field a (Lock.the_row (Idle.the_row H h)) tt)
            (shr_send _ _ _ (lock.the_sync (Idle.the_row H h) (idle_send H h))),
        tt,
      ),
    )

-- in the order of its fields
pub worker_send : (a : NamedLft) (R H : RattleType) (s : Handles R.Denot) (h : Ghosts H.Denot) → IsSync R
    → IsSend (Worker.the_row a R H s h)
worker_send a R H s h shared =
    declared_send (Worker.the_type a R H s h) (
      as_row_send (row_field (ShrRef a.mir a.lft R)) (shr_send _ _ R shared),
      (
        as_row_send (shr_ref_field a Store.the_row tt) (shr_send _ _ _ store_sync),
        (
          pass_send,
          (
            option.the_send Room.the_row room_send,
            (
              notes.the_send,
              (
                place.the_send,
                (
                  search sendable,
                  (
                    keys.the_send,
                    (
                      option.the_send _ (readers_send a R H s h shared),
                      (
                        phantom.the_send H,
                        tt,
                      ),
                    ),
                  ),
                ),
              ),
            ),
          ),
        ),
      ),
    )
