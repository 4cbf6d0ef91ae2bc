use Rattle.std.proofs.Common.{◌+◌, ◌≤◌, List, length, sym, ◌∙◌, ap, subst}
use Rattle.pass_moves.specs.VersionSegment.Rows.{VersionedRows}
use Rattle.pass_moves.specs.LeafArray.Leaves.{IsLeaf, Merges}
use Rattle.pass_moves.specs.LeafArray.Segments.{AreSame, high_or, low_or, rows_of}
use Rattle.pass_moves.proofs.LeafStore.MoveLemmas.{same_respreads}
use Rattle.pass_moves.proofs.LeafStore.SplitLemmas.{always_err}
use Rattle.pass_moves.specs.Moving.{values_of}
use Rattle.pass_moves.proofs.SpreadLemmas.{put_twice}
use Rattle.pass_merges.proofs.CellLemmas.{left_length}
use Rattle.pass_merges.proofs.pair.merge_halves.Goals as goal

pub merge_leaves-done-requires-clause-left : goal.merge_leaves-done-requires-clause-left
merge_leaves-done-requires-clause-left c = subst IsLeaf (sym c.exchange.ensures.segments) c.requires.leaves.left_leaf

pub merge_leaves-done-requires-clause-right : goal.merge_leaves-done-requires-clause-right
merge_leaves-done-requires-clause-right c =
    subst IsLeaf (sym c.exchange-2.ensures.segments) c.requires.leaves.right_leaf

pub merge_leaves-done-requires-clause-neighbours : goal.merge_leaves-done-requires-clause-neighbours
merge_leaves-done-requires-clause-neighbours c = λ other.
    ap (λ ss. high_or ss other) c.exchange.ensures.segments ∙ c.requires.leaves.meet other
    ∙ sym (ap (λ ss. low_or ss other) c.exchange-2.ensures.segments)

pub merge_leaves-done-requires-clause-few : goal.merge_leaves-done-requires-clause-few
merge_leaves-done-requires-clause-few c =
    subst (λ (x : List VersionedRows × List VersionedRows). length (rows_of x.0) + length (rows_of x.1) ≤ 104)
    (λ i. (sym c.exchange.ensures.segments i, sym c.exchange-2.ensures.segments i)) c.requires.leaves.few

pub cuts_of-cuts-requires : goal.cuts_of-cuts-requires
cuts_of-cuts-requires c =
    left_length c.merge_leaves-done.result _ _ c.merge_leaves-done.new.left.segments
    c.merge_leaves-done.new.right.segments c.merge_leaves-done.ensures.ok c.merge_leaves-done.ensures.left
    c.exchange.ensures.segments c.requires.leaves.left_leaf.segments

pub returns-in_err-done-clause-err : goal.returns-in_err-done-clause-err
returns-in_err-done-clause-err c =
    let ss = values_of c.args.first.now in
    let ts = values_of c.args.second.now in
    let us = c.merge_leaves-done.new.left.segments in
    let ws = c.merge_leaves-done.new.right.segments in
    let left = subst (λ ms. AreSame ms us) c.exchange.ensures.segments c.in_err-done.ensures.left in
    let right = subst (λ ms. AreSame ms ws) c.exchange-2.ensures.segments c.in_err-done.ensures.right in
    always_err _ c.from_residual.result (
      record {
        segments = us;
        same = left;
        sound = (same_respreads ss us c.requires.leaves.left_leaf c.requires.leaves.left_sound left).sound;
        put = put_twice _ _ _ _ _ c.exchange.ensures.cells c.exchange-3.ensures.cells;
      },
      record {
        segments = ws;
        same = right;
        sound = (same_respreads ts ws c.requires.leaves.right_leaf c.requires.leaves.right_sound right).sound;
        put = put_twice _ _ _ _ _ c.exchange-2.ensures.cells c.exchange-4.ensures.cells;
      },
    )

pub returns-clause-ok : goal.returns-clause-ok
returns-clause-ok c = record {
  left = c.merge_leaves-done.new.left.segments;
  right = c.merge_leaves-done.new.right.segments;
  merges = subst (λ (x : List VersionedRows × List VersionedRows). Merges x.0 x.1
      c.merge_leaves-done.new.left.segments c.merge_leaves-done.new.right.segments)
      (λ i. (c.exchange.ensures.segments i, c.exchange-2.ensures.segments i)) c.in_ok-done.ensures.ok;
  sound = c.cuts_of-cuts.ensures.sound;
  cuts_are = c.cuts_of-cuts.ensures.cuts;
  left_between = c.exchange-3.new.cells;
  right_between = c.exchange-4.new.cells;
  left_put = put_twice _ _ _ _ _ c.exchange.ensures.cells c.exchange-3.ensures.cells;
  right_put = put_twice _ _ _ _ _ c.exchange-2.ensures.cells c.exchange-4.ensures.cells;
  left_marked = c.mark.ensures;
  right_marked = c.mark-2.ensures;
}
