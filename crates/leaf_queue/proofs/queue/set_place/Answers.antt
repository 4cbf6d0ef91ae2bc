use Rattle.std.proofs.Common.{◌+◌, ◌<◌, length, drop, sym, ◌∙◌, ap, arith}
use Rattle.std.specs.Prelude.{slice_get}
use Rattle.std.proofs.Math.ListN.{length-set}
use Rattle.std.proofs.lemmas.List.{drop-set-add, drop-set-lt, length-drop}
use Rattle.leaf_queue.proofs.TreeLemmas.{now_won, numbered_set, won_above, won_below}
use Rattle.leaf_queue.proofs.queue.set_place.Goals as goal

pub above-init : goal.above-init
above-init c = record {
  some = omega (arith, c.requires.tree.some);
  within = omega (arith, c.requires.within);
  count = length-set c.args.nodes.now.items (c.args.leaves + c.args.leaf) c.args.waiting ∙ c.requires.tree.count;
  places = drop-set-add c.args.leaves c.args.nodes.now.items c.args.leaf c.args.waiting;
  won = won_below c.args.leaves c.args.nodes.now.items (c.args.leaves + c.args.leaf) c.args.waiting c.requires.tree (omega arith);
}

pub above-preserved : goal.above-preserved
above-preserved c =
    let i = c.above.invariant in
    let inner = c.above-test.true in
    record {
      some = omega (arith, inner);
      within = omega (arith, i.within, c.requires.tree.some);
      count = length-set c.above.nodes.items _ c.first_of.result ∙ i.count;
      places = drop-set-lt c.args.leaves c.above.nodes.items _ c.first_of.result (omega (arith, i.within)) ∙ i.places;
      won = won_above c.args.leaves c.above.nodes.items c.above.at c.first_of.result i.won
          (now_won c.above.nodes.items _ c.first_of.result (omega (arith, inner)) (omega (arith, i.within, i.count)) _ _ c.index.ensures c.index-in-above.ensures c.first_of.ensures);
    }

pub returns-clause-tree : goal.returns-clause-tree
returns-clause-tree c =
    let i = c.above.invariant in
    let wide : c.args.leaf < length (drop c.args.leaves c.args.nodes.now.items) = omega (arith, length-drop c.args.leaves c.args.nodes.now.items, c.requires.tree.count, c.requires.within) in
    record {
      some = c.requires.tree.some;
      few = c.requires.tree.few;
      count = i.count;
      won = λ node some within. i.won node some within (λ same. absurd (omega (arith, same, some, c.above-test.false)));
      numbered = λ n w is. numbered_set (drop c.args.leaves c.args.nodes.now.items) c.args.leaf c.args.waiting wide c.requires.number c.requires.tree.numbered n w (sym (ap (λ places. slice_get places n) i.places) ∙ is);
    }
