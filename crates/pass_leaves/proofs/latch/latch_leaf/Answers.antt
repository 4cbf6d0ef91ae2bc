use Rattle.std.proofs.Common.{◌≡◌, ◌*◌, ◌∙◌, arith}
use Rattle.std.specs.Prelude.{true}
use Rattle.std.proofs.Common.{rules}
use Rattle.pass_leaves.specs.Hand.{numbers_held}
use Rattle.pass_leaves.proofs.NumberLemmas.{segments_more}
use Rattle.pass_leaves.proofs.latch.latch_leaf.Goals as goal

pub segments-preserved : goal.segments-preserved
segments-preserved g c =
    let got = c.latch_cell.ensures in
    let was = c.segments.invariant in
    let taken : c.latch_cell.result ≡ true = search rules in
    let more = got.more taken in
    let length = more.1 in
    let count = was.3 in
    let kept = got.capacity in
    let room = was.4 in (
      got.latched,
      got.number ∙ was.1,
      segments_more (numbers_held c.args.packed.now.items) (numbers_held c.segments.packed.items)
          (numbers_held c.latch_cell.new.packed.items) (8 * c.args.leaf) c.segments.segment was.2 more.0,
      omega (arith, length, count),
      omega (arith, kept, room),
    )
