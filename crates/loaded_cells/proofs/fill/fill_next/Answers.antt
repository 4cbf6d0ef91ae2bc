use Rattle.std.proofs.Common.{◌≡◌, ◌∙◌, ◌+◌, ◌-◌, ap, arith, drop, length, subst, take}
use Rattle.gap_segment.specs.Fenced.{first_key_or}
use Rattle.graph_model.specs.Rows.{end_key}
use Rattle.loaded_cells.specs.Laid.{AreDivided}
use Rattle.loaded_cells.proofs.DividedLemmas.{can_next, count_next, divided_next}
use Rattle.loaded_cells.proofs.fill.fill_next.Goals as goal

pub add_leaf-requires-clause-place : goal.add_leaf-requires-clause-place
add_leaf-requires-clause-place c =
    let back = c.split_at.ensures.back in
    can_next c.args.rows.now c.args.at c.args.index.now c.take_free.new.self c.args.ranges.now.items
    c.in-Some.leaf c.requires.sorted c.requires.within c.requires.divided c.requires.more c.in-Some.ensures.0
    c.in-Some.ensures.1 c.split.result.0 c.cuts_of.result
    (c.split.ensures.low ∙ c.begin_of.ensures ∙ ap (λ xs. first_key_or xs end_key) back)
    (c.split.ensures.cut ∙ ap (λ xs. first_key_or (drop 208 xs) end_key) back)
    (c.split.ensures.front ∙ ap (take 208) back) c.cuts_of.ensures

pub returns-clause-ok : goal.returns-clause-ok
returns-clause-ok c =
    let rows = c.args.rows.now in
    let back = c.split_at.ensures.back in
    let divided = divided_next rows c.args.at c.args.index.now c.take_free.new.self c.args.ranges.now.items
    c.in-Some.leaf c.requires.sorted c.requires.within c.requires.divided c.requires.more c.in-Some.ensures.0
    c.in-Some.ensures.1 c.split.result.0 c.cuts_of.result
    (c.split.ensures.low ∙ c.begin_of.ensures ∙ ap (λ xs. first_key_or xs end_key) back)
    (c.split.ensures.cut ∙ ap (λ xs. first_key_or (drop 208 xs) end_key) back)
    (c.split.ensures.front ∙ ap (take 208) back) c.cuts_of.ensures c.add_leaf.new.self c.put_range.new.ranges.items
    c.in_ok-add_leaf.ensures.ok c.add_leaf.ensures.others c.is_index.ensures.index c.put_range.ensures in
    let count = count_next rows c.args.at c.split.result.0.rows.now c.split.result.1.rows.now c.requires.more
    (c.split.ensures.front ∙ ap (take 208) back) (c.split.ensures.back ∙ ap (drop 208) back) in
    let next : c.args.at + length c.split.result.0.rows.now ≡ length rows - length c.split.result.1.rows.now =
    omega (arith, count.0) in
    subst (λ n. AreDivided rows n c.add_leaf.new.self c.put_range.new.ranges.items) next divided

pub returns-clause-more : goal.returns-clause-more
returns-clause-more c =
    let back = c.split_at.ensures.back in
    let count = count_next c.args.rows.now c.args.at c.split.result.0.rows.now c.split.result.1.rows.now c.requires.more
    (c.split.ensures.front ∙ ap (take 208) back) (c.split.ensures.back ∙ ap (drop 208) back) in
    omega (arith, count.0, count.1)

pub overflow_sub-result : goal.overflow_sub-result
overflow_sub-result c =
    let back = c.split_at.ensures.back in
    let count = count_next c.args.rows.now c.args.at c.split.result.0.rows.now c.split.result.1.rows.now c.requires.more
    (c.split.ensures.front ∙ ap (take 208) back) (c.split.ensures.back ∙ ap (drop 208) back) in
    omega (arith, count.0)
