use Rattle.std.proofs.Common.{ap}
use Rattle.graph_model.specs.OwnerCalls.{Core}
use Rattle.cases_engine.proofs.OpenLemmas.{none_open}
use Rattle.cases_engine.proofs.merges.nine_leaves_with_forty_rows_become_one.Goals as goal

pub merge_nine_leaves-requires : goal.merge_nine_leaves-requires
merge_nine_leaves-requires g c =
    none_open 1 2 c.in_ok-core.core.core (ap (λ (core : Core). core.passes) c.in_ok-core.ensures.ok.core) c.in_ok-core.core.core.selected
