use Rattle.std.proofs.Common.{◌≡◌, take}
use Rattle.std.specs.Prelude.{false, nat_le, nat_lt, ◌&&◌}
use Rattle.std.specs.List.{list_any}
use Rattle.head_map.proofs.list.HeadList.are_settled.Given as goal

abbrev pub invariant-rows : goal.invariant-rows
invariant-rows l = list_any (λ row. nat_le l.first row.place && nat_lt row.place l.end) (take l.row-index l.row-items) ≡ false
