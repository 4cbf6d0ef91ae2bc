use Rattle.std.proofs.Common.{◌≡◌, ◌∙◌, suc, ◌+◌, ◌-◌, ◌++◌, ◌∷◌, [], ap, arith, length, sym}
use Rattle.std.proofs.lemmas.List.{length-take}
use Rattle.loaded_cells.specs.Numbered.{first_block}
use Rattle.loaded_cells.specs.Ranges.{leaf_segments, segment_of}
use Rattle.loaded_cells.proofs.RangeLemmas.{next_segment, settled_words}
use Rattle.loaded_cells.proofs.WordLemmas.{block_more}
use Rattle.loaded_cells.proofs.words.lay_leaf.Goals as goal

pub push_block-requires : goal.push_block-requires
push_block-requires c =
    let front = length-take 26 c.segments.rest.rows.now in
    let own = ap length c.split.ensures.front in
    omega (arith, front, own)

pub segments-preserved : goal.segments-preserved
segments-preserved c =
    let h = c.segments.invariant in
    let p = c.segments._segment in
    let segment = c.split.result.0 in
    let is = c.split.ensures in
    let count : 8 - p ≡ suc (8 - (p + 1)) =
    let test = c.segments-test.true in let end = c.segments.auto._segment-end in omega arith in (
      h.0 ++ segment_of segment ∷ [],
      next_segment (leaf_segments c.args.leaf) h.0 (8 - p) (8 - (p + 1)) c.segments.rest segment c.split.result.1 count
          is.low is.front is.cut is.next is.high is.back h.1,
      block_more c.args.words.now.items c.segments.words.items c.push_block.new.words.items h.0 (segment_of segment) h.2
          (c.in_ok-push_block.ensures ∙ ap (λ rows. c.segments.words.items ++ first_block segment.low segment.high rows)
          (sym (settled_words segment.rows.now))),
    )
