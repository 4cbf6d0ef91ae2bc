use Rattle.std.proofs.Common.{ap}
use Rattle.std.specs.Prelude.{slice_get}
use Rattle.graph_model.specs.OwnerCalls.{Core}
use Rattle.cases_engine.specs.Open.{open_of}
use Rattle.cases_engine.proofs.passes.a_pass_begins_as_many_transactions_as_it_may.Goals as goal

pub begin_three_times-requires : goal.begin_three_times-requires
begin_three_times-requires g c = ap (λ (core : Core). slice_get (open_of core) 1) c.in_ok-core.ensures.ok.core
