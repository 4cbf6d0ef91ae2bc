use Rattle.std.proofs.Common.{ap, ◌∙◌, ◌++◌, subst}
use Rattle.leaf_array.specs.Segments.{AreChained}
use Rattle.leaf_array.proofs.LeafLemmas.{on_ok, on_err, chained-front, chained-rest, window-spread, window-same}
use Rattle.leaf_array.proofs.window.spread.Goals as goal

pub spread_all-requires-clause-chained : goal.spread_all-requires-clause-chained
spread_all-requires-clause-chained c =
    let are = c.split_at_mut-behind.ensures.value ∙ ap (λ ss. c.split_at_mut-behind.result.0.now ++ ss) c.split_at_mut-segments.ensures.value in
    chained-front _ _ (chained-rest _ _ (subst AreChained are c.requires.leaf.chained))

pub returns-clause-ok : goal.returns-clause-ok
returns-clause-ok c =
    let are = c.split_at_mut-behind.ensures.value ∙ ap (λ ss. c.split_at_mut-behind.result.0.now ++ ss) c.split_at_mut-segments.ensures.value in
    on_ok _ _ c.spread_all.result c.spread_all.ensures.ok
    (λ divided. window-spread c.args.window c.args.leaf.now.segments _ _ _ are c.split_at_mut-behind.ensures.front_len c.split_at_mut-segments.ensures.front_len _ c.requires.leaf divided)

pub returns-clause-err : goal.returns-clause-err
returns-clause-err c =
    let are = c.split_at_mut-behind.ensures.value ∙ ap (λ ss. c.split_at_mut-behind.result.0.now ++ ss) c.split_at_mut-segments.ensures.value in
    on_err _ _ c.spread_all.result c.spread_all.ensures.err
    (λ same. window-same c.args.window c.args.leaf.now.segments _ _ _ are c.split_at_mut-behind.ensures.front_len c.split_at_mut-segments.ensures.front_len _ same)
