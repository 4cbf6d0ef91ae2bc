use Rattle.worker_calls.proofs.CallLemmas.{idle_kept, legal_ready, ready_either}
use Rattle.worker_calls.proofs.calls.begin.Goals as goal

pub begin-requires : goal.begin-requires
begin-requires g c = record { idle = idle_kept c.args.store.now c.args.pass.now c.requires.ready c.requires.none }

pub returns-clause-ready : goal.returns-clause-ready
returns-clause-ready g c =
    ∣ ready_either c.begin.result c.args.store.now c.begin.new.pass c.begin.ensures.opened c.begin.ensures.idle ∣₁

pub returns-clause-legal : goal.returns-clause-legal
returns-clause-legal g c =
    legal_ready c.args.store.now c.begin.new.pass
    (ready_either c.begin.result c.args.store.now c.begin.new.pass c.begin.ensures.opened c.begin.ensures.idle)
