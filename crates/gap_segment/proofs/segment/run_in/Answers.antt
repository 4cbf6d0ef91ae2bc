use Rattle.std.proofs.Common.{◌≡◌, ◌-◌, arith}
use Rattle.gap_segment.proofs.FencedLemmas.{between_places}
use Rattle.gap_segment.proofs.segment.run_in.Goals as goal

pub returns : goal.returns
returns c =
    let many : c.max.result - c.cut_in-first.result ≡ c.cut_in-end.result - c.cut_in-first.result = omega (arith, c.max.ensures) in
    rw many (between_places _ _ _ _ _ c.cut_in-first.ensures c.cut_in-end.ensures)
