use Rattle.std.proofs.Common.{◌≡◌, ◌++◌, length, refl, sym, ◌∙◌, ap, arith}
use Rattle.std.specs.Prelude.{reverse}
use Rattle.leaf_index.specs.Idle.{leaves_of, times_in}
use Rattle.leaf_index.proofs.ChainLemmas.{count_fits, ends_with, next_turned}
use Rattle.leaf_trie.proofs.ListLemmas.{append_none}
use Rattle.leaf_index.proofs.chain.Chain.turned.Goals as goal

pub leaves-init : goal.leaves-init
leaves-init c = record {
  whole = sym (append_none (leaves_of c.args.links.now.items c.args.self)) ∙ ap (λ xs. leaves_of c.args.links.now.items c.args.self ++ reverse xs) (sym (c.empty-turned.ensures.leaves c.args.links.now.items));
  from_count = omega arith;
  turned_count = c.empty-turned.ensures.count;
  others = λ other apart. refl;
  same_length = refl;
}

pub without_last-from-requires-clause-exists : goal.without_last-from-requires-clause-exists
without_last-from-requires-clause-exists c =
    let k = c.leaves.invariant in
    let ends = ends_with c.leaves.links.items c.leaves.from.last c.leaves.from.count (omega (arith, k.from_count, c.leaves-test.true)) in
    let next = next_turned (length c.args.links.now.items) c.leaves.from.last _ _ ends.0 (leaves_of c.leaves.links.items c.leaves.turned) c.requires.once k.whole ends.1 in
    omega (arith, next.exists, k.same_length)

pub with_last-turned-requires-clause-fewer : goal.with_last-turned-requires-clause-fewer
with_last-turned-requires-clause-fewer c =
    let k = c.leaves.invariant in
    let fits = count_fits c.args.links.now.items c.args.self (length c.args.links.now.items) c.requires.once in
    omega (arith, fits, k.turned_count, c.leaves-test.true, k.same_length)

pub with_last-turned-requires-clause-exists : goal.with_last-turned-requires-clause-exists
with_last-turned-requires-clause-exists c =
    let k = c.leaves.invariant in
    let next = next_turned (length c.args.links.now.items) c.leaves.from.last _ _ _ (leaves_of c.leaves.links.items c.leaves.turned) c.requires.once k.whole c.without_last-from.ensures.leaves in
    omega (arith, next.exists, k.same_length)

pub with_last-turned-requires-clause-lacks : goal.with_last-turned-requires-clause-lacks
with_last-turned-requires-clause-lacks c =
    (next_turned (length c.args.links.now.items) c.leaves.from.last _ _ _ (leaves_of c.leaves.links.items c.leaves.turned) c.requires.once c.leaves.invariant.whole c.without_last-from.ensures.leaves).lacks_turned

pub leaves-preserved : goal.leaves-preserved
leaves-preserved c =
    let k = c.leaves.invariant in
    let links = c.args.links.now.items in
    let next = next_turned (length links) c.leaves.from.last _ _ _ (leaves_of c.leaves.links.items c.leaves.turned) c.requires.once k.whole c.without_last-from.ensures.leaves in
    let puts = c.with_last-turned.ensures in
    let from : leaves_of c.with_last-turned.new.links.items c.without_last-from.result ≡ leaves_of c.leaves.links.items c.without_last-from.result = puts.others c.without_last-from.result next.lacks_from in
    record {
      whole = next.whole_is ∙ (λ i. sym from i ++ reverse (sym puts.last i));
      from_count = omega (arith, k.from_count, c.without_last-from.ensures.count);
      turned_count = omega (arith, puts.count, k.turned_count);
      others = λ other apart.
          let same = k.others other apart in
          let lacks : times_in c.leaves.from.last (leaves_of c.leaves.links.items other) ≡ 0 = ap (times_in c.leaves.from.last) same ∙ omega (arith, apart c.leaves.from.last, next.here) in
          puts.others other lacks ∙ same;
      same_length = puts.same_length ∙ k.same_length;
    }
