use Rattle.std.proofs.Common.{arith, refl, length, subst, ap, ap₂}
use Rattle.density_tree.specs.Division.{evenly}
use Rattle.leaf_array.specs.Segments.{IsDivided}
use Rattle.leaf_array.proofs.CountLemmas.{same-chained, same-rows, same-length}
use Rattle.leaf_array.proofs.LeafLemmas.{room-for-same, divided-since}
use Rattle.leaf_array.proofs.window.spread_all.Goals as goal

pub divide_evenly-requires-clause-chained : goal.divide_evenly-requires-clause-chained
divide_evenly-requires-clause-chained c = same-chained _ _ c.in_ok-reserve_for.ensures.same c.requires.chained

pub divide_evenly-requires-clause-some : goal.divide_evenly-requires-clause-some
divide_evenly-requires-clause-some c =
    omega (arith, c.requires.some, same-length c.args.segments.now c.reserve_for.new.segments c.in_ok-reserve_for.ensures.same)

pub divide_evenly-requires-clause-few : goal.divide_evenly-requires-clause-few
divide_evenly-requires-clause-few c =
    omega (arith, c.requires.few, same-length c.args.segments.now c.reserve_for.new.segments c.in_ok-reserve_for.ensures.same)

pub divide_evenly-requires-clause-spare : goal.divide_evenly-requires-clause-spare
divide_evenly-requires-clause-spare c =
    room-for-same (length c.args.segments.now) c.args.segments.now _ refl c.in_ok-reserve_for.ensures.same c.in_ok-reserve_for.ensures.ok

pub returns-clause-ok : goal.returns-clause-ok
returns-clause-ok c =
    let same = c.in_ok-reserve_for.ensures.same in
    let rows = ap length (same-rows c.args.segments.now c.reserve_for.new.segments same) in
    let count = same-length c.args.segments.now c.reserve_for.new.segments same in
    divided-since _ _ _ _ same (subst (IsDivided c.reserve_for.new.segments c.divide_evenly.new.segments) (ap₂ evenly rows count) c.divide_evenly.ensures)
