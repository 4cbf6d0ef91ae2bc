use Rattle.std.proofs.Common.{refl, sym, arith}
use Rattle.leaf_table.proofs.LookLemmas.{read_all, all_sound}
use Rattle.leaf_table.proofs.look.cuts_of.Goals as goal

pub segments-init : goal.segments-init
segments-init c = record { wide = sym c.requires; same = refl; sound = tt }

pub returns-clause-cuts : goal.returns-clause-cuts
returns-clause-cuts c = read_all (λ s. s.low) c.segments.place c.segments.cuts c.args.leaf.now.segments c.segments.invariant (omega (arith, c.requires, c.segments-test.false))

pub returns-clause-sound : goal.returns-clause-sound
returns-clause-sound c = all_sound (λ s. s.low) c.segments.place c.segments.cuts c.args.leaf.now.segments c.segments.invariant (omega (arith, c.requires, c.segments-test.false))
