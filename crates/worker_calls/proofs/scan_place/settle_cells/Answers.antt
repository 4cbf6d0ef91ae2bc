use Rattle.worker_calls.proofs.CallLemmas.{legal_ready}
use Rattle.worker_calls.proofs.KeptLemmas.{ready_none, ready_of, seats_only, turn_account, turn_ready}
use Rattle.worker_calls.proofs.PropLemmas.{is_ready}
use Rattle.worker_calls.proofs.scan_place.settle_cells.Goals as goal

pub settle_swept-requires-clause-pass : goal.settle_swept-requires-clause-pass
settle_swept-requires-clause-pass g c =
    ready_of c.args.store.now c.args.pass.now (is_ready c.args.store.now c.args.pass.now c.requires.ready)

pub settle_swept-requires-clause-none : goal.settle_swept-requires-clause-none
settle_swept-requires-clause-none g c =
    ready_none c.args.store.now c.args.pass.now (is_ready c.args.store.now c.args.pass.now c.requires.ready)

pub returns-clause-ready : goal.returns-clause-ready
returns-clause-ready g c =
    let done = c.settle_swept.ensures in
    ∣ turn_ready c.args.store.now c.args.pass.now _
    (seats_only c.args.pass.now c.settle_swept.new.pass done.same.number)
    done.pass done.none done.same (is_ready c.args.store.now c.args.pass.now c.requires.ready) ∣₁

pub returns-clause-legal : goal.returns-clause-legal
returns-clause-legal g c =
    let done = c.settle_swept.ensures in
    legal_ready c.args.store.now _
    (turn_ready c.args.store.now c.args.pass.now _
    (seats_only c.args.pass.now c.settle_swept.new.pass done.same.number)
    done.pass done.none done.same (is_ready c.args.store.now c.args.pass.now c.requires.ready))

pub returns-clause-reads : goal.returns-clause-reads
returns-clause-reads g c =
    let done = c.settle_swept.ensures in
    turn_account c.args.store.now c.args.pass.now _
    (seats_only c.args.pass.now c.settle_swept.new.pass done.same.number)
    done.pass done.none done.same
