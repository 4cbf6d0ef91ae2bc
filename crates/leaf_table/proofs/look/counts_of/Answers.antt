use Rattle.std.proofs.Common.{refl, sym, arith}
use Rattle.leaf_array.specs.Segments.{count_of}
use Rattle.leaf_table.proofs.LookLemmas.{read_all, all_sound}
use Rattle.leaf_table.proofs.look.counts_of.Goals as goal

pub segments-init : goal.segments-init
segments-init c = record { wide = sym c.requires; same = refl; sound = tt }

pub returns-clause-counts : goal.returns-clause-counts
returns-clause-counts c = read_all count_of c.segments.place c.segments.counts c.args.leaf.now.segments c.segments.invariant (omega (arith, c.requires, c.segments-test.false))

pub returns-clause-sound : goal.returns-clause-sound
returns-clause-sound c = all_sound count_of c.segments.place c.segments.counts c.args.leaf.now.segments c.segments.invariant (omega (arith, c.requires, c.segments-test.false))
