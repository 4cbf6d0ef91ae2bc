use Rattle.std.proofs.Common.{arith}
use Rattle.graph_maker.proofs.DrawLemmas.{next_draw, no_draw, enough}
use Rattle.graph_maker.proofs.generate.draw_pairs.Goals as goal
use Rattle.graph_maker.proofs.generate.draw_pairs.Goals.{then-draws-test+else-len-edges, else-draws-test}

pub draws-preserved : goal.draws-preserved
draws-preserved c =
    next_draw c.args.vertices c.args.edges c.draws.draws c.draws.generator c.draws.kept _ c.draws.invariant c.draw.result
    c.draw.new.generator c.offer.new.self c.draws-test.true (let is = c.len.ensures in omega arith) c.draw.ensures c.in_ok-offer.ensures.ok

pub returns : goal.returns
returns c = elim c.draws-test.branch [
  | then-draws-test+else-len-edges w ↦ enough c.args.vertices c.args.edges c.draws.draws c.draws.generator c.draws.kept _
      c.draws.invariant (let is = w.len.ensures in omega arith)
  | else-draws-test w ↦ no_draw c.args.vertices c.args.edges c.draws.draws c.draws.generator c.draws.kept _ c.draws.invariant
      w.draws-test.false
]
