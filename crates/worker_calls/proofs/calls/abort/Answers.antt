use Rattle.worker_calls.proofs.CallLemmas.{legal_idle, open_kept, ready_idle}
use Rattle.worker_calls.proofs.calls.abort.Goals as goal

pub abort-requires : goal.abort-requires
abort-requires g c = record { opened = open_kept c.args.store.now c.args.pass.now c.requires.ready c.requires.current }

pub returns-clause-ready : goal.returns-clause-ready
returns-clause-ready g c = ready_idle c.args.store.now c.abort.new.pass c.abort.ensures.idle

pub returns-clause-legal : goal.returns-clause-legal
returns-clause-legal g c = legal_idle c.args.store.now c.abort.new.pass c.abort.ensures.idle
