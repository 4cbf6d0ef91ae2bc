use Rattle.std.proofs.Common.{◌++◌, ◌≤◌, length, sym, ◌∙◌, ap₂, arith}
use Rattle.std.proofs.lemmas.List.{take-append-drop}
use Rattle.graph_model.specs.Rows.{end_key}
use Rattle.graph_model.proofs.KeyLemmas.{below_flip}
use Rattle.gap_segment.specs.Fenced.{first_key_or}
use Rattle.leaf_table.proofs.FillLemmas.{next_rows}
use Rattle.leaf_table.proofs.fill.leaf_from.Goals as goal

pub settled_leaf-requires-clause-fences : goal.settled_leaf-requires-clause-fences
settled_leaf-requires-clause-fences c =
    let is = sym c.split_at.ensures.back ∙ sym (ap₂ (λ xs ys. xs ++ ys) c.split_at-2.ensures.front c.split_at-2.ensures.back ∙ take-append-drop c.min.result c.split_at.result.1.now) in
    let within : c.args.at ≤ length c.args.rows.now = omega (arith, c.requires.more) in
    let next = next_rows c.args.rows.now c.split_at-2.result.0.now c.split_at-2.result.1.now c.args.at c.requires.sorted c.requires.within within is (omega (arith, c.requires.more, c.split_at.ensures.back_len, c.min.ensures, c.split_at-2.ensures.front_len)) in
    rw (c.begin_of-low.ensures, c.begin_of-high.ensures) (below_flip (first_key_or c.split_at-2.result.0.now end_key) (first_key_or c.split_at-2.result.1.now end_key) next.low)

pub settled_leaf-requires-clause-sorted : goal.settled_leaf-requires-clause-sorted
settled_leaf-requires-clause-sorted c =
    let is = sym c.split_at.ensures.back ∙ sym (ap₂ (λ xs ys. xs ++ ys) c.split_at-2.ensures.front c.split_at-2.ensures.back ∙ take-append-drop c.min.result c.split_at.result.1.now) in
    let within : c.args.at ≤ length c.args.rows.now = omega (arith, c.requires.more) in
    (next_rows c.args.rows.now c.split_at-2.result.0.now c.split_at-2.result.1.now c.args.at c.requires.sorted c.requires.within within is (omega (arith, c.requires.more, c.split_at.ensures.back_len, c.min.ensures, c.split_at-2.ensures.front_len))).sorted

pub settled_leaf-requires-clause-within : goal.settled_leaf-requires-clause-within
settled_leaf-requires-clause-within c =
    let is = sym c.split_at.ensures.back ∙ sym (ap₂ (λ xs ys. xs ++ ys) c.split_at-2.ensures.front c.split_at-2.ensures.back ∙ take-append-drop c.min.result c.split_at.result.1.now) in
    let within : c.args.at ≤ length c.args.rows.now = omega (arith, c.requires.more) in
    let next = next_rows c.args.rows.now c.split_at-2.result.0.now c.split_at-2.result.1.now c.args.at c.requires.sorted c.requires.within within is (omega (arith, c.requires.more, c.split_at.ensures.back_len, c.min.ensures, c.split_at-2.ensures.front_len)) in
    rw (c.begin_of-low.ensures, c.begin_of-high.ensures) next.within
