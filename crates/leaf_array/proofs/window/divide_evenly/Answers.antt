use Rattle.std.proofs.Common.{ap, ◌∙◌, sym, length, sum, subst, ◌≤◌}
use Rattle.std.specs.List.{AllByRecursion}
use Rattle.density_tree.specs.Division.{evenly}
use Rattle.leaf_array.specs.Segments.{IsDivided}
use Rattle.leaf_array.proofs.LeafLemmas.{shares-few, one-share-each, divided-still}
use Rattle.leaf_array.proofs.window.divide_evenly.Goals as goal

pub divide-requires-clause-shares : goal.divide-requires-clause-shares
divide-requires-clause-shares c = ap sum c.as_slice.ensures ∙ (c.spread_counts-counts.ensures.all ∙ c.rows_in-rows.ensures.rows)

pub divide-requires-clause-each : goal.divide-requires-clause-each
divide-requires-clause-each c =
    ap length (c.as_slice.ensures ∙ c.spread_counts-counts.ensures.even) ∙ one-share-each c.rows_in-rows.result (length c.args.segments.now)

pub divide-requires-clause-few : goal.divide-requires-clause-few
divide-requires-clause-few c =
    subst (AllByRecursion (λ count. count ≤ 32)) (sym (c.as_slice.ensures ∙ c.spread_counts-counts.ensures.even))
    (shares-few c.rows_in-rows.result (length c.args.segments.now) c.requires.some c.rows_in-rows.ensures.small)

pub returns : goal.returns
returns c =
    let rows = ap (λ n. evenly n (length c.args.segments.now)) c.rows_in-rows.ensures.rows in
    let counts = c.as_slice.ensures ∙ (c.spread_counts-counts.ensures.even ∙ rows) in
    divided-still c.args.segments.now c.divide.new.segments c.give_back.new.segments _ (subst (IsDivided c.args.segments.now c.divide.new.segments) counts c.divide.ensures.divided) c.give_back.ensures
