use Rattle.std.proofs.Common.{◌≡◌, ◌++◌, ◌+◌, ◌*◌, ◌-◌, ◌≤◌, length, take, take_at, sym, ◌∙◌, ap₂, subst, arith}
use Rattle.std.proofs.lemmas.List.{length-append}
use Rattle.graph_model.specs.Rows.{first_key, end_key}
use Rattle.gap_segment.specs.Fenced.{AreSorted, AreWithin}
use Rattle.leaf_table.specs.Settled.{AreLeavesFrom, IsLeafOf}
use Rattle.leaf_table.proofs.FillLemmas.{all_within_back, sorted_back}
use Rattle.leaf_table.proofs.LoadLemmas.{joined, seen_sorted, seen_within, shown}
use Rattle.leaf_table.proofs.load.leaves_of_halves.Goals as goal

pub first_leaf-requires-clause-sorted : goal.first_leaf-requires-clause-sorted
first_leaf-requires-clause-sorted g c =
    let head = c.as_slice-3.ensures.value ∙ c.in_ok-head.ensures ∙ ap₂ (λ xs ys. take 209 (xs ++ ys)) c.as_slice.ensures.value c.as_slice-2.ensures.value in
    subst AreSorted (sym head) (seen_sorted 209 0 (c.args.front.items ++ c.args.back.items) c.requires.sorted)

pub first_leaf-requires-clause-within : goal.first_leaf-requires-clause-within
first_leaf-requires-clause-within g c =
    let head = c.as_slice-3.ensures.value ∙ c.in_ok-head.ensures ∙ ap₂ (λ xs ys. take 209 (xs ++ ys)) c.as_slice.ensures.value c.as_slice-2.ensures.value in
    subst (AreWithin first_key end_key) (sym head) (seen_within 209 0 (c.args.front.items ++ c.args.back.items) c.requires.within)

pub make_leaves-requires-2-clause-sorted : goal.make_leaves-requires-2-clause-sorted
make_leaves-requires-2-clause-sorted g c κs within = subst AreSorted (sym c.as_slice-6.ensures.value) (sorted_back c.args.front.items c.args.back.items c.requires.sorted)

pub make_leaves-requires-2-clause-within : goal.make_leaves-requires-2-clause-within
make_leaves-requires-2-clause-within g c κs within = subst (AreWithin first_key end_key) (sym c.as_slice-6.ensures.value) (all_within_back first_key end_key c.args.front.items c.args.back.items c.requires.within)

pub returns : goal.returns
returns g c =
    let head = c.as_slice-3.ensures.value ∙ c.in_ok-head.ensures ∙ ap₂ (λ xs ys. take 209 (xs ++ ys)) c.as_slice.ensures.value c.as_slice-2.ensures.value in
    let near = subst (λ rows. AreLeavesFrom rows 208 c.make_leaves.new.made) (ap₂ (λ xs ys. xs ++ ys) c.as_slice-4.ensures.value c.as_slice-5.ensures.value) c.make_leaves.ensures.made in
    let far = subst (λ rows. AreLeavesFrom rows c.saturating_sub-behind.result c.make_leaves-2.new.made) c.as_slice-6.ensures.value c.make_leaves-2.ensures.made in
    let whole : length (c.make_leaves.new.made ++ c.make_leaves-2.new.made) ≡ c.in_ok-rest.rest.len =
    omega (
      arith,
      length-append c.make_leaves.new.made c.make_leaves-2.new.made,
      c.make_leaves.ensures.count,
      c.make_leaves-2.ensures.count,
      c.split_at_mut-near.ensures.front_len,
      c.split_at_mut-near.ensures.back_len,
      c.as_mut_slice.ensures.len,
      c.min-begun.ensures,
      c.len-4.ensures,
    ) in
    let follow : 1 ≤ length c.make_leaves-2.new.made → (length c.args.front.items ≤ 208 + 208 * length c.make_leaves.new.made) × (c.saturating_sub-behind.result ≡ 208 + 208 * length c.make_leaves.new.made - length c.args.front.items) = λ some. (
      omega (arith, some, c.make_leaves.ensures.count, c.make_leaves-2.ensures.count, c.split_at_mut-near.ensures.front_len, c.split_at_mut-near.ensures.back_len, c.as_mut_slice.ensures.len, c.min-begun.ensures, c.len-3.ensures, c.len-4.ensures, c.args.front.ok),
      omega (arith, c.make_leaves.ensures.count, c.split_at_mut-near.ensures.front_len, c.saturating_sub-behind.ensures, c.len-5.ensures, c.args.front.ok),
    ) in
    record {
      first = shown first_key (c.args.front.items ++ c.args.back.items) c.in_ok-first.first (subst (λ rows. IsLeafOf first_key rows c.in_ok-first.first) head c.in_ok-first.ensures);
      rest = subst (AreLeavesFrom (c.args.front.items ++ c.args.back.items) 208) (sym (take_at (c.make_leaves.new.made ++ c.make_leaves-2.new.made) _ c.in_ok-rest.rest.len whole))
          (joined c.args.front.items c.args.back.items c.saturating_sub-behind.result c.make_leaves.new.made c.make_leaves-2.new.made follow near far);
      count = omega (arith, c.len.ensures, c.len-2.ensures, length-append c.args.front.items c.args.back.items, c.args.front.ok, c.args.back.ok);
    }
