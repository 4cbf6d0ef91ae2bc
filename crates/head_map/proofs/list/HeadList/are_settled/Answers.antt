use Rattle.std.proofs.Common.{◌≤◌, length, arith}
use Rattle.head_map.proofs.HeadLemmas.{none_of_all}
use Rattle.head_map.proofs.PlaceLemmas.{settled_places}
use Rattle.head_map.proofs.list.HeadList.are_settled.Goals as goal

pub returns : goal.returns
returns c = λ _.
    let none = rw c.deref-row-items.ensures.value at c.rows.invariant in
    let all : length c.self.inside.rows.items ≤ c.rows.row-index = omega arith in
    rw (← c.self.view_is) (settled_places c.args.first c.args.end c.self.inside.rows.items (none_of_all _ c.self.inside.rows.items c.rows.row-index all none))
