use Rattle.std.proofs.Common.{◌≡◌}
use Rattle.graph_model.specs.Graph.{has_vertex}
use Rattle.worker_calls.proofs.CallLemmas.{at_start, legal_open, open_kept, reads_on, ready_open}
use Rattle.worker_calls.proofs.calls.has_vertex.Goals as goal

pub has_vertex-requires-clause-opened : goal.has_vertex-requires-clause-opened
has_vertex-requires-clause-opened g c = open_kept c.args.store.now c.args.pass.now c.requires.ready c.requires.current

pub returns-clause-ready : goal.returns-clause-ready
returns-clause-ready g c = ready_open c.args.store.now c.has_vertex.new.pass c.has_vertex.ensures.kept.opened

pub returns-clause-legal : goal.returns-clause-legal
returns-clause-legal g c = legal_open c.args.store.now c.has_vertex.new.pass c.has_vertex.ensures.kept.opened

pub returns-clause-reads : goal.returns-clause-reads
returns-clause-reads g c = reads_on c.args.store.now c.args.pass.now c.has_vertex.new.pass c.has_vertex.ensures.kept

pub returns-clause-answer : goal.returns-clause-answer
returns-clause-answer g c =
    at_start c.args.store.now c.args.pass.now (λ g. c.has_vertex.result ≡ has_vertex g c.args.v)
    (open_kept c.args.store.now c.args.pass.now c.requires.ready c.requires.current) c.has_vertex.ensures.answer
