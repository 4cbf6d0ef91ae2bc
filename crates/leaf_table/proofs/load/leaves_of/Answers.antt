use Rattle.std.proofs.Common.{Some, Option, Vec, Box, Global, length, refl, sym, ◌∙◌, ap, subst, arith}
use Rattle.std.proofs.Math.ListN.{length-set}
use Rattle.leaf_array.specs.declared.leaf.Leaf.{Leaf}
use Rattle.leaf_table.specs.Settled.{AreLeavesFrom}
use Rattle.leaf_table.proofs.LoadLemmas.{MadeSoFar, none_made, one_made}
use Rattle.leaf_table.proofs.load.leaves_of.Goals.{then-at-rows+in_ok-leaf_from, else-at-rows}
use Rattle.leaf_table.proofs.load.leaves_of.Goals as goal

pub leaves-init : goal.leaves-init
leaves-init c = record {
  made = subst (AreLeavesFrom c.args.rows.now 208) (sym c.in_ok-rest.ensures) (none_made c.args.rows.now 208 _);
  count = omega (arith, c.len-place-end.ensures, c.in_ok-rest.rest.ok);
}

pub put_leaf-requires : goal.put_leaf-requires
put_leaf-requires c = omega (arith, c.leaves.invariant.count, c.leaves-test.true)

pub leaves-preserved : goal.leaves-preserved
leaves-preserved c = elim c.if-at-rows.branch as (λ _. MadeSoFar c.args.rows.now c.len-place-end.result c.if-at-rows.rest.items) [
  | then-at-rows+in_ok-leaf_from w ↦ let items = ap (λ (v : Vec (Option (Box Leaf Global)) Global). v.items) w.rest-is ∙ w.put_leaf.ensures in record {
    made = subst (AreLeavesFrom c.args.rows.now 208) (sym items) (one_made c.args.rows.now 208 c.leaves.place c.leaves.rest.items w.in_ok-leaf_from.field-0 c.leaves.invariant.made w.in_ok-leaf_from.ensures);
    count = ap length items ∙ length-set c.leaves.rest.items c.leaves.place (Some w.in_ok-leaf_from.field-0) ∙ c.leaves.invariant.count;
  }
  | else-at-rows w ↦ subst (λ (v : Vec (Option (Box Leaf Global)) Global). MadeSoFar c.args.rows.now c.len-place-end.result v.items) (sym w.rest-is) c.leaves.invariant
]

pub returns : goal.returns
returns c = record {
  first = c.in_ok-first.ensures;
  rest = c.leaves.invariant.made;
  count = refl;
}
