use Rattle.gap_segment.proofs.segment.Segment.set_fences.Goals as goal

pub invariant_of-self : goal.invariant_of-self
invariant_of-self c =
    let within = rw (← c.self.view_is) at c.requires.within in
    (record { fences = c.requires.fences; sorted = c.self.invariant.0.sorted; within = within }, c.self.invariant.1, c.self.invariant.2)
