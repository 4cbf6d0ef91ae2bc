use Rattle.std.proofs.Common.{◌≡◌, ◌+◌, ◌-◌, ◌++◌, [], ◌∷◌, sym, ◌∙◌, ap, arith}
use Rattle.std.specs.List.{range_with_len}
use Rattle.leaf_index.specs.Idle.{times_in}
use Rattle.leaf_index.proofs.CountLemmas.{beyond_range, range_more}
use Rattle.leaf_index.proofs.IdleLemmas.{linked_first}
use Rattle.leaf_index.proofs.idle.IdleLeaves.new.Goals as goal

pub with_last-free-requires-clause-lacks : goal.with_last-free-requires-clause-lacks
with_last-free-requires-clause-lacks c = ap (times_in c.fill.leaf) c.fill.invariant.free ∙ beyond_range c.fill.leaf c.fill.invariant.some

pub fill-preserved : goal.fill-preserved
fill-preserved c =
    let k = c.fill.invariant in
    let puts = c.with_last-free.ensures in
    let leaf = c.fill.leaf in
    let up : leaf - 1 + 1 ≡ leaf + 1 - 1 = omega (arith, k.some) in
    record {
      free = puts.last ∙ ap (λ xs. xs ++ leaf ∷ []) k.free ∙ sym (range_more 1 (leaf - 1) leaf (omega (arith, k.some))) ∙ ap (range_with_len 1) up;
      count = omega (arith, puts.count, k.count);
      some = omega (arith, k.some);
      links_length = puts.same_length ∙ k.links_length;
      stamps_length = k.stamps_length;
    }

pub invariant_of-result : goal.invariant_of-result
invariant_of-result c =
    let k = c.fill.invariant in
    let all : c.fill.leaf ≡ c.args.leaves = omega (arith, c.fill-test.false, c.fill.auto.leaf-end, c.requires.some) in
    linked_first c.fill.links.items c.in_ok-stamps.stamps.items c.fill.free c.empty.result c.args.leaves c.requires.some c.requires.few k.links_length k.stamps_length (k.free ∙ ap (λ n. range_with_len 1 (n - 1)) all) (c.empty.ensures.leaves c.fill.links.items)
