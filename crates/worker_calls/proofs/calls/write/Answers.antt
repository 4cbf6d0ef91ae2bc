use Rattle.worker_calls.proofs.CallLemmas.{legal_open, open_kept, ready_open}
use Rattle.worker_calls.proofs.calls.write.Goals as goal

pub write_with_room-requires-clause-opened : goal.write_with_room-requires-clause-opened
write_with_room-requires-clause-opened g c =
    open_kept c.args.store.now c.args.pass.now c.requires.ready c.requires.current

pub returns-clause-ready : goal.returns-clause-ready
returns-clause-ready g c = ready_open c.args.store.now c.write_with_room.new.pass c.write_with_room.ensures.opened

pub returns-clause-legal : goal.returns-clause-legal
returns-clause-legal g c = legal_open c.args.store.now c.write_with_room.new.pass c.write_with_room.ensures.opened
