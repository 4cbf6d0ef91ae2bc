use Rattle.std.proofs.Common.{◌∙◌, sym, ap, arith}
use Rattle.graph_model.specs.declared.row.Row.{Row}
use Rattle.graph_model.proofs.TestLemmas.{never}
use Rattle.gap_segment.proofs.FencedLemmas.{gap_of_place}
use Rattle.graph_model.proofs.KeyLemmas.{same_key_test}
use Rattle.gap_segment.proofs.segment.find_in.Goals as goal

pub returns-in_default : goal.returns-in_default
returns-in_default c = gap_of_place _ _ _ c.requires c.place_in-place.ensures
    (λ d lt e. never _ (same_key_test c.in-Some.row.now.key c.args.key (ap (λ (r : Row). r.key) (c.in-Some.ensures.lookup.4 (omega arith) d) ∙ e)) (sym c.eq.ensures ∙ c.if-eq.false))
