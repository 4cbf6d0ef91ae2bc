use Rattle.std.proofs.Common.{[], refl, ap}
use Rattle.leaf_index.specs.Index.{Index}
use Rattle.cases_leaves.proofs.hints.a_hint_is_the_last_leaf_that_begins_below_the_key.Goals as goal

pub split_last-requires-clause-last : goal.split_last-requires-clause-last
split_last-requires-clause-last g c = record {
  front = [];
  last = _;
  is = ap (λ (i : Index). i.entries) c.in_ok-index.ensures;
  same = refl;
}
