use Rattle.std.proofs.Common.{◌∙◌, ap, length, arith}
use Rattle.row_table.specs.HeadMap.Heads.{heads_placed}
use Rattle.version_segment.specs.Resting.{settled_rest}
use Rattle.version_segment.proofs.RestLemmas.{no_heads, settled_left, settled_parts}
use Rattle.version_segment.proofs.resting.Resting.settled.Goals as goal

pub invariant_of-result : goal.invariant_of-result
invariant_of-result c =
    let r = c.settled.result in
    let few = c.requires in
    let same = c.settled.ensures.count in
    (settled_parts r.chains (heads_placed r.heads.entries) r.count (no_heads r.heads.entries (ap length c.settled.ensures.entries)), omega (arith, few, same))

pub returns : goal.returns
returns c =
    let r = c.settled.result in
    settled_left r.chains r.count (heads_placed r.heads.entries) (no_heads r.heads.entries (ap length c.settled.ensures.entries))
    ∙ ap settled_rest c.settled.ensures.count
