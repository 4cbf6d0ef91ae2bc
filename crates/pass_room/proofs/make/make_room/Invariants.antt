use Rattle.pass_writes.specs.Hand.{HasNothing, KeepsState}
use Rattle.pass_room.proofs.make.make_room.Given as goal

-- no leaf is in hand
abbrev pub invariant-tries : goal.invariant-tries
invariant-tries g l =
    (goal.iterator-tries g).can_next l.iterator' × (goal.iterator-tries g).is_finite l.iterator'
    × HasNothing l.store l.pass l.own.leaves.cells.items × KeepsState l.fn.pass l.pass
