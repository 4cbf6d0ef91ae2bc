use Rattle.std.proofs.Common.{◌≡◌}
use Rattle.graph_model.specs.Graph.{weight_of}
use Rattle.worker_calls.proofs.CallLemmas.{at_start, legal_open, open_kept, reads_on, ready_open}
use Rattle.worker_calls.proofs.calls.weight.Goals as goal

pub weight-requires-clause-opened : goal.weight-requires-clause-opened
weight-requires-clause-opened g c = open_kept c.args.store.now c.args.pass.now c.requires.ready c.requires.current

pub returns-clause-ready : goal.returns-clause-ready
returns-clause-ready g c = ready_open c.args.store.now c.weight.new.pass c.weight.ensures.kept.opened

pub returns-clause-legal : goal.returns-clause-legal
returns-clause-legal g c = legal_open c.args.store.now c.weight.new.pass c.weight.ensures.kept.opened

pub returns-clause-reads : goal.returns-clause-reads
returns-clause-reads g c = reads_on c.args.store.now c.args.pass.now c.weight.new.pass c.weight.ensures.kept

pub returns-clause-answer : goal.returns-clause-answer
returns-clause-answer g c =
    at_start c.args.store.now c.args.pass.now (λ g. c.weight.result ≡ weight_of g c.args.u c.args.v)
    (open_kept c.args.store.now c.args.pass.now c.requires.ready c.requires.current) c.weight.ensures.answer
