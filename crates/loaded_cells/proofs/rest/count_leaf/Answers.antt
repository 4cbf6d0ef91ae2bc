use Rattle.std.proofs.Common.{◌≡◌, suc, ◌+◌, ◌-◌, ◌++◌, ◌∷◌, [], ap, arith, length, sym}
use Rattle.std.proofs.lemmas.List.{length-map, length-take}
use Rattle.rule_model.specs.VersionSegment.Rows.{settled_row}
use Rattle.loaded_cells.specs.Ranges.{leaf_segments, segment_of}
use Rattle.loaded_cells.proofs.RangeLemmas.{next_segment}
use Rattle.loaded_cells.proofs.WordLemmas.{count_more}
use Rattle.loaded_cells.proofs.rest.count_leaf.Goals as goal

pub overflow_cast-segment : goal.overflow_cast-segment
overflow_cast-segment c =
    let front = length-take 26 c.segments.rest.rows.now in
    let own = ap length c.split.ensures.front in
    omega (arith, front, own)

pub segments-preserved : goal.segments-preserved
segments-preserved c =
    let h = c.segments.invariant in
    let p = c.segments._segment in
    let segment = c.split.result.0 in
    let is = c.split.ensures in
    let count : 8 - p ≡ suc (8 - (p + 1)) =
    let test = c.segments-test.true in let end = c.segments.auto._segment-end in omega arith in (
      h.0 ++ segment_of segment ∷ [],
      next_segment (leaf_segments c.args.leaf) h.0 (8 - p) (8 - (p + 1)) c.segments.rest segment c.split.result.1 count
          is.low is.front is.cut is.next is.high is.back h.1,
      count_more c.args.counts.now.items c.segments.counts.items c.push.new.self.items h.0 (segment_of segment)
          (length segment.rows.now) h.2 c.in_ok-push.ensures.items (sym (length-map segment.rows.now settled_row)),
    )
