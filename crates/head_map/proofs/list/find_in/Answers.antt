use Rattle.std.proofs.Common.{◌∙◌, ap, arith}
use Rattle.graph_model.specs.declared.row.Key.{Key}
use Rattle.head_map.specs.Heads.{PlacedRow}
use Rattle.head_map.specs.Heads.{placed_key}
use Rattle.head_map.proofs.KeyedLemmas.{gap_of_place}
use Rattle.head_map.proofs.list.find_in.Goals as goal

pub returns-in_default : goal.returns-in_default
returns-in_default c = gap_of_place placed_key _ _ _ c.requires c.index_in-index.ensures
    (λ d lt e. c.if-place.false (c.place.ensures ∙ ap (λ (r : PlacedRow). r.place) (c.in-Some.ensures.lookup.4 (omega arith) d) ∙ ap (λ (k : Key). k.src) e))
