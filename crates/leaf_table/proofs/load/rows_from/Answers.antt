use Rattle.std.proofs.Common.{◌≡◌, ◌-◌, ◌++◌, length, min, take, drop, ◌∙◌, ap, ap₂}
use Rattle.leaf_table.proofs.LoadLemmas.{seen_both}
use Rattle.leaf_table.proofs.load.rows_from.Goals as goal

pub returns : goal.returns
returns c =
    let here : c.split_at-2.result.0.now ≡ take (min (length (drop c.args.at c.args.front.now)) 209) (drop c.args.at c.args.front.now) =
    c.split_at-2.ensures.front ∙ ap₂ take (c.min.ensures ∙ ap (λ xs. min (length xs) 209) c.split_at.ensures.back) c.split_at.ensures.back in
    let behind : c.split_at-3.result.0.now ≡ take (min (length c.args.back.now) (209 - length c.split_at-2.result.0.now)) c.args.back.now =
    c.split_at-3.ensures.front ∙ ap (λ k. take k c.args.back.now) c.min-2.ensures in
    c.in_ok-extend_from_slice.ensures.items ∙ ap (λ xs. xs ++ c.split_at-3.result.0.now) c.in_ok-rows.ensures.items
    ∙ seen_both 209 c.args.at c.args.front.now c.args.back.now c.split_at-2.result.0.now c.split_at-3.result.0.now c.requires here behind
