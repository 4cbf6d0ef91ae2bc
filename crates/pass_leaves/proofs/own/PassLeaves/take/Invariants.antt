use Rattle.std.proofs.Common.{◌≡◌, []}
use Rattle.pass_cells.specs.Holding.{HoldsNone, KeepsPass}
use Rattle.pass_leaves.proofs.own.PassLeaves.take.Given as goal

-- no cell is in hand
abbrev pub invariant-tries : goal.invariant-tries
invariant-tries g l =
    (goal.iterator-tries g).can_next l.iterator' × (goal.iterator-tries g).is_finite l.iterator'
    × HoldsNone l.store l.pass × (l.self.cells.items ≡ []) × KeepsPass l.fn.pass l.pass
