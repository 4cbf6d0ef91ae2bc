use Rattle.graph_image.proofs.BuildLemmas.{storable_next}
use Rattle.graph_image.proofs.builder.Builder.push.Goals as goal

pub append-requires-clause-storable : goal.append-requires-clause-storable
append-requires-clause-storable c = storable_next c.args.self.now c.args.rows.now _ c.rows.i _ c.requires c.rows-test.true c.rows.invariant.1
