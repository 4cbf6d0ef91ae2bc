use Rattle.std.proofs.Common.{sym, arith}
use Rattle.std.specs.List.{list_any}
use Rattle.graph_model.specs.Effects.{keys_of}
use Rattle.graph_model.proofs.LegalLemmas.{below_length}
use Rattle.serial_check.specs.Ranges.{covers}
use Rattle.serial_check.proofs.RangeLemmas.{any_none}
use Rattle.serial_check.proofs.against.writes_in.Goals as goal

pub returns : goal.returns
returns c = sym (any_none (λ w. list_any (covers c.args.footprint.now.items) (keys_of c.args.kind w)) c.args.writes.now
    (λ i w at. c.writes.invariant i w (let lt = below_length c.args.writes.now i w at in omega (arith, lt, c.writes-test.false)) at))
