use Rattle.std.proofs.Common.{◌≡◌, suc, ◌-◌, take, ◌∙◌, sym, subst, arith}
use Rattle.gap_segment.specs.Fenced.{AreBelow}
use Rattle.gap_segment.proofs.FencedLemmas.{take_below}
use Rattle.gap_segment.proofs.segment.are_below.Goals as goal

pub returns-else-place-eq0 : goal.returns-else-place-eq0
returns-else-place-eq0 c = λ h.
    let last : suc (c.args.place - 1) ≡ c.args.place = omega (arith, c.if-place-eq0.false) in
    subst (λ n. AreBelow c.args.key (take n c.args.rows.now)) last
    (take_below _ _ (c.args.place - 1) _ c.requires.sorted (omega (arith, c.requires.within, last)) (sym c.is_below.ensures ∙ h))
