use Rattle.std.proofs.Common.{[], ◌∷◌, ◌++◌, length, rules, arith, ap, sym, ◌∙◌, subst}
use Rattle.std.proofs.lemmas.List.{length_push}
use Rattle.graph_model.specs.Rows.{end_key, first_key}
use Rattle.reader_parts.specs.Cuts.{AreEnds}
use Rattle.reader_parts.proofs.CutLemmas.{one_more_end}
use Rattle.reader_parts.proofs.cut.cut_keys.Goals as goal

pub parts-preserved : goal.parts-preserved
parts-preserved c =
    let inv = c.parts.invariant in
    let key = c.later_key-last.result in
    let pushed = c.in_ok-push.ensures.items in
    let more = ap length pushed ∙ length_push c.parts.keys.items key in
    let known = inv.count in
    record {
      ends = subst (AreEnds first_key key) (sym pushed)
          (one_more_end first_key c.parts.last key c.parts.keys.items inv.ends c.later_key-last.ensures.onward);
      inside = c.later_key-last.ensures.inside;
      count = omega (arith, more, known);
    }

pub returns-clause-ends : goal.returns-clause-ends
returns-clause-ends c =
    let inv = c.parts.invariant in
    subst (AreEnds first_key end_key)
    (sym (c.in_ok-push-2.ensures.items ∙ ap (λ k. c.parts.keys.items ++ k ∷ []) c.end.ensures))
    (one_more_end first_key c.parts.last end_key c.parts.keys.items inv.ends inv.inside)
