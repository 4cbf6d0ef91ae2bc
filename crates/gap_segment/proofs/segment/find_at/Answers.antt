use Rattle.std.proofs.Common.{◌∙◌, ap, sym, arith}
use Rattle.graph_model.specs.declared.row.Row.{Row}
use Rattle.graph_model.specs.Rows.{is_below}
use Rattle.gap_segment.proofs.FencedLemmas.{drop_above}
use Rattle.gap_segment.proofs.segment.find_at.Goals as goal

pub returns-in-Some-2 : goal.returns-in-Some-2
returns-in-Some-2 c =
    let row = c.in-Some.row.now in
    let at = c.in-Some.ensures.lookup.3 in
    let above = ap (λ (r : Row). is_below c.args.key r.key) (sym (at.1 row)) ∙ sym c.is_below.ensures ∙ c.if-is_below.true in
    record {
      within = omega (arith, at.0);
      before = c.are_below.ensures c.if-are_below.true;
      behind = drop_above _ _ _ row c.requires at.0 above;
    }
