use Rattle.std.proofs.Common.{◌∙◌, refl, sym, arith}
use Rattle.graph_model.specs.Rows.{end_key}
use Rattle.graph_model.proofs.KeyLemmas.{between_parts}
use Rattle.leaf_rows.proofs.SettleLemmas.{pruned_none, pruned_more, pruned_all, rank_rises}
use Rattle.leaf_rows.proofs.rows.LeafRows.settle.Goals as goal

pub leaves-init : goal.leaves-init
leaves-init c = rw c.of_vertex-key.ensures (record { pruned = pruned_none _ _ _; fits = omega arith; limit = refl; weight = omega arith })

pub leaves-preserved : goal.leaves-preserved
leaves-preserved c =
    let sweep = c.sweep_leaf-pruned.ensures in
    let before = c.leaves.invariant in
    let leaf = sweep.prunes in
    record {
      pruned = pruned_more _ _ _ _ _ c.leaves.key leaf.low _ before.pruned leaf.prunes leaf.holds;
      fits = sweep.fits;
      limit = sweep.limit ∙ before.limit;
      weight = let x = sweep.weight in let y = before.weight in omega (arith, x, y);
    }

pub leaves-smaller : goal.leaves-smaller
leaves-smaller c =
    let sweep = c.sweep_leaf-pruned.ensures in
    let leaf = sweep.prunes in
    let high = c.sweep_leaf-pruned.result.high in
    let onward = rank_rises c.leaves.key high (between_parts leaf.low high c.leaves.key leaf.holds).1 c.leaves.invariant.fits in
    let within = rank_rises c.leaves.key end_key (rw c.end.ensures at (sym c.is_below.ensures ∙ c.leaves-test.true)) c.leaves.invariant.fits in
    omega (arith, onward, within)

pub returns-clause-contents : goal.returns-clause-contents
returns-clause-contents c =
    pruned_all _ _ c.args.self.now c.leaves.self c.leaves.key (rw c.self.view_is at c.is_sound.ensures.sound) c.leaves.invariant.pruned (rw c.end.ensures at (sym c.is_below.ensures ∙ c.leaves-test.false))
