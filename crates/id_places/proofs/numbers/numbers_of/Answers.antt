use Rattle.std.proofs.Common.{arith}
use Rattle.id_places.proofs.NumberLemmas.{no_numbers, one_number, numbers_end}
use Rattle.id_places.proofs.numbers.numbers_of.Goals as goal

pub edges-init : goal.edges-init
edges-init c = no_numbers c.args.kind c.args.known.now _ c.in_ok-numbers.ensures.items

pub edges-preserved : goal.edges-preserved
edges-preserved c =
    one_number c.args.kind c.args.known.now c.args.edges.now c.edges.edge-index (record { u = 0; v = 0; weight = 0 }) c.in-Some.number _ _ c.edges-test.true c.edges.invariant
    c.in-Some.ensures.number c.in-Some.ensures.source c.in-Some.ensures.target c.in_ok-push.ensures.items

pub returns-in_default-clause-numbers : goal.returns-in_default-clause-numbers
returns-in_default-clause-numbers c = numbers_end c.args.kind c.args.known.now c.args.edges.now c.edges.edge-index _ c.edges.numbers.items c.edges.auto.edge-index-end (omega arith) c.edges.invariant

pub returns-clause-numbers : goal.returns-clause-numbers
returns-clause-numbers c = numbers_end c.args.kind c.args.known.now c.args.edges.now c.edges.edge-index _ c.edges.numbers.items c.edges.auto.edge-index-end (omega arith) c.edges.invariant
