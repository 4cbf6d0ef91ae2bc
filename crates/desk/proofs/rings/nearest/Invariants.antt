use Rattle.std.specs.Prelude.{IfSome}
use Rattle.desk.specs.Rings.{IsEndOf}
use Rattle.desk.proofs.rings.nearest.Given as goal

-- whoever is the best one yet is at the other end of one of the arcs
abbrev pub invariant-arcs : goal.invariant-arcs
invariant-arcs l = IfSome l.best (IsEndOf l.arcs)
