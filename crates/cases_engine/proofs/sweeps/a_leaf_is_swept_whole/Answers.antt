use Rattle.std.proofs.Common.{ap}
use Rattle.graph_model.specs.OwnerCalls.{Core}
use Rattle.cases_engine.proofs.OpenLemmas.{none_open}
use Rattle.cases_engine.proofs.sweeps.a_leaf_is_swept_whole.Goals as goal

pub sweep_a_leaf-requires : goal.sweep_a_leaf-requires
sweep_a_leaf-requires g c = none_open 3 2 c.in_ok-core.core.core (ap (λ (core : Core). core.passes) c.in_ok-core.ensures.ok.core)
