use Rattle.std.proofs.Common.{ap}
use Rattle.cases_engine.specs.Open.{open_of}
use Rattle.cases_engine.proofs.passes.the_first_writer_of_a_vertex_wins.Goals as goal

pub add_by_two-requires : goal.add_by_two-requires
add_by_two-requires g c = ap open_of c.in_ok-core.ensures.ok.core
