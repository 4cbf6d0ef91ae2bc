use Rattle.std.proofs.Common.{◌++◌, List, refl, subst}
use Rattle.pass_moves.specs.PassCellsDeclared.taken.TakenCell.{TakenCell}
use Rattle.pass_moves.specs.Moving.{values_of}
use Rattle.pass_moves.proofs.LeafStore.SplitLemmas.{always_err}
use Rattle.pass_merges.specs.Merging.{MayMerge}
use Rattle.pass_merges.proofs.CellLemmas.{back_is, front_is, keeps_parts, keeps_self, merges_parts}
use Rattle.pass_merges.proofs.pair.merge_cells.Goals as goal

pub merge_halves-requires : goal.merge_halves-requires
merge_halves-requires c =
    let cut = c.split_at_mut-first in
    let front = front_is cut.result.0.now cut.result.1.now c.args.cells.now cut.ensures.value cut.ensures.front_len in
    let back = back_is cut.result.0.now cut.result.1.now c.args.cells.now cut.ensures.value cut.ensures.front_len in
    record {
      leaves = subst (λ (x : List TakenCell × List TakenCell). MayMerge (values_of x.0) (values_of x.1))
          (λ i. (front i, back i)) c.requires.leaves;
    }

pub returns-clause-ok : goal.returns-clause-ok
returns-clause-ok c =
    let cut = c.split_at_mut-first in
    merges_parts c.merge_halves.result cut.result.0.now cut.result.1.now c.merge_halves.new.first
    c.merge_halves.new.second c.args.cells.now (c.merge_halves.new.first ++ c.merge_halves.new.second)
    cut.ensures.value refl cut.ensures.front_len c.merge_halves.ensures.first_count c.merge_halves.ensures.ok

pub returns-in_err-more-clause-err : goal.returns-in_err-more-clause-err
returns-in_err-more-clause-err c =
    always_err _ c.from_residual.result
    (keeps_self c.args.cells.now c.requires.leaves.left_sound c.requires.leaves.right_sound)

pub returns-clause-err : goal.returns-clause-err
returns-clause-err c =
    let cut = c.split_at_mut-first in
    keeps_parts c.merge_halves.result cut.result.0.now cut.result.1.now c.merge_halves.new.first
    c.merge_halves.new.second c.args.cells.now cut.ensures.value c.merge_halves.ensures.err
