use Rattle.std.proofs.Common.{◌≡◌, ◌∙◌, ap, sym, length, arith}
use Rattle.row_table.specs.HeadMap.Heads.{heads_placed}
use Rattle.version_segment.specs.Resting.{RestingRows, settled_rest}
use Rattle.version_segment.proofs.RestLemmas.{count_places, no_heads, settled_left, settled_parts}
use Rattle.version_segment.proofs.resting.Resting.settle.Goals as goal

pub invariant_of-result : goal.invariant_of-result
invariant_of-result c =
    let r = c.settle.result in
    let few = c.self.invariant.1 in
    let same = c.settle.ensures.count in
    (settled_parts r.chains (heads_placed r.heads.entries) r.count (no_heads r.heads.entries (ap length c.settle.ensures.entries)), omega (arith, few, same))

pub returns : goal.returns
returns c =
    let r = c.settle.result in
    let old = c.self.inside.heads in
    settled_left r.chains r.count (heads_placed r.heads.entries) (no_heads r.heads.entries (ap length c.settle.ensures.entries))
    ∙ ap settled_rest (c.settle.ensures.count ∙ sym (count_places old.chains old.count (heads_placed old.heads.entries)) ∙ ap (λ (x : RestingRows). length x.rows) c.self.view_is)
