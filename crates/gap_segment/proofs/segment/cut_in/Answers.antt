use Rattle.std.proofs.Common.{◌-◌, ◌∙◌, length, sym, arith}
use Rattle.gap_segment.proofs.FencedLemmas.{none_below, all_below}
use Rattle.gap_segment.proofs.segment.cut_in.Goals as goal

pub returns-in-len1-up : goal.returns-in-len1-up
returns-in-len1-up c = none_below _ _ _ c.requires (omega (arith, c.in-len1-up.len_at_least)) (sym c.is_below.ensures ∙ c.if-not-is_below.true)

pub returns-in-len1-up-2 : goal.returns-in-len1-up-2
returns-in-len1-up-2 c = all_below _ _ _ (length c.args.rows.now - 1) c.requires (omega (arith, c.in-len1-up.len_at_least)) (sym c.is_below-2.ensures ∙ c.if-is_below.true)
