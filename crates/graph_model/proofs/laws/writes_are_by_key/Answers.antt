use Rattle.graph_model.proofs.EffectLemmas.{value_at-apply, value_at-apply_all, touch_is_cut_off, touch_is_of_vertex}
use Rattle.graph_model.proofs.ClashLemmas.{clash_parts, clash_of_parts}
use Rattle.graph_model.proofs.laws.writes_are_by_key.Goals as goal

pub returns-clause-write : goal.returns-clause-write
returns-clause-write c = value_at-apply

pub returns-clause-writes : goal.returns-clause-writes
returns-clause-writes c = value_at-apply_all

pub returns-clause-touches : goal.returns-clause-touches
returns-clause-touches c = λ w u v. (touch_is_cut_off v w, touch_is_of_vertex u v w)

pub returns-clause-clash : goal.returns-clause-clash
returns-clause-clash c = λ kind x y. (clash_parts kind x y, clash_of_parts kind x y)
