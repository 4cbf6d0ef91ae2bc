use Rattle.store_model.specs.Stamped.{read_stamped}
use Rattle.version_segment.specs.RestingParts.{IsReadTo}
use Rattle.version_segment.proofs.resting.Resting.run_at.Given as goal

-- the rows before the place have been read
abbrev pub invariant-rows : goal.invariant-rows
invariant-rows g l = IsReadTo (read_stamped (g.S.States.knowledge l.initial.states).stamps l.snapshot.start l.snapshot.own) l.from l.until
    l.self.rows l.words l.place (g.S.States.knowledge l.initial.states) (g.S.States.knowledge l.states) l.buffer
