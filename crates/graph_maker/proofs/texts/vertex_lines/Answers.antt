use Rattle.std.proofs.Common.{arith}
use Rattle.std.proofs.lemmas.Grind.{common_steps}
use Rattle.graph_maker.proofs.DrawLemmas.{next_id}
use Rattle.graph_maker.proofs.texts.vertex_lines.Goals as goal

pub ids-preserved : goal.ids-preserved
ids-preserved c = grind (arith, common_steps, next_id c.ids.written)
