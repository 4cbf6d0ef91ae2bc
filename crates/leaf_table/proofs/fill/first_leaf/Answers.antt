use Rattle.std.proofs.Common.{◌++◌, sym, subst, ◌∙◌, ap₂}
use Rattle.std.proofs.lemmas.List.{take-append-drop}
use Rattle.graph_model.specs.Rows.{first_key, end_key}
use Rattle.gap_segment.specs.Fenced.{AreSorted, AreWithin}
use Rattle.leaf_table.proofs.FillLemmas.{sorted_front, within_front}
use Rattle.leaf_table.proofs.fill.first_leaf.Goals as goal

pub settled_leaf-requires-clause-sorted : goal.settled_leaf-requires-clause-sorted
settled_leaf-requires-clause-sorted c =
    let is = sym (ap₂ (λ xs ys. xs ++ ys) c.split_at.ensures.front c.split_at.ensures.back ∙ take-append-drop c.min.result c.args.rows.now) in
    sorted_front c.split_at.result.0.now c.split_at.result.1.now (subst AreSorted is c.requires.sorted)

pub settled_leaf-requires-clause-within : goal.settled_leaf-requires-clause-within
settled_leaf-requires-clause-within c =
    let is = sym (ap₂ (λ xs ys. xs ++ ys) c.split_at.ensures.front c.split_at.ensures.back ∙ take-append-drop c.min.result c.args.rows.now) in
    rw c.begin_of-high.ensures (within_front first_key end_key c.split_at.result.0.now c.split_at.result.1.now (subst AreSorted is c.requires.sorted) (subst (AreWithin first_key end_key) is c.requires.within))
