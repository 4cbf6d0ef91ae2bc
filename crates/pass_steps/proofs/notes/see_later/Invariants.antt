use Rattle.std.proofs.Common.{◌≡◌}
use Rattle.pass_steps.specs.Passes.{IsOpenPass, IsSamePass, pin_of, state_of}
use Rattle.pass_steps.proofs.SeeLemmas.{SeesMore}
use Rattle.pass_steps.proofs.notes.see_later.Given as goal

abbrev pub invariant-looks : goal.invariant-looks
invariant-looks g l =
    (goal.iterator-looks g).can_next l.iterator' × (goal.iterator-looks g).is_finite l.iterator'
    × IsOpenPass l.store l.pass × SeesMore (state_of l.fn.pass) (state_of l.pass)
    × (pin_of l.pass ≡ pin_of l.fn.pass) × IsSamePass l.fn.pass l.pass
