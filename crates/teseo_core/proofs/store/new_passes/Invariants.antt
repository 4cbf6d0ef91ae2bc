use Rattle.std.proofs.Common.{◌≡◌, replicate}
use Rattle.teseo_core.specs.Passes.{new_pass}
use Rattle.teseo_core.specs.Keeping.{states_of}
use Rattle.teseo_core.proofs.store.new_passes.Given as goal

abbrev pub invariant-passes : goal.invariant-passes
invariant-passes l = states_of l.passes.items ≡ replicate l.counter (new_pass l.allowed)
