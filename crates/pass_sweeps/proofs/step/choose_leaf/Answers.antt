use Rattle.std.proofs.Common.{◌∙◌, ◌<◌, ap, refl, subst, sym}
use Rattle.leaf_index.specs.Index.{Index}
use Rattle.pass_steps.specs.RuleModel.Sight.{IndexState}
use Rattle.pass_sweeps.proofs.HandLemmas.{index_is}
use Rattle.pass_sweeps.proofs.step.choose_leaf.Goals as goal

pub returns-then-is_below-clause-inside : goal.returns-then-is_below-clause-inside
returns-then-is_below-clause-inside g c =
    let t = c.take_index-held.ensures.taken in
    subst (λ n. c.leaf_of-range.result.leaf < n)
    (ap (λ (i : Index). i.leaves) (c.deref.ensures ∙ t.3
    ∙ ap (λ (u : IndexState). u.index) (sym (index_is c.take_index-held.new.pass.account.me.0 t.0 t.1.index)))
    ∙ c.learn_leaves.ensures.told) c.leaf_of-range.ensures.exists

pub returns-clause-inside : goal.returns-clause-inside
returns-clause-inside g c =
    let t = c.take_index-held.ensures.taken in
    subst (λ n. c.leaf_of-range.result.leaf < n)
    (ap (λ (i : Index). i.leaves) (c.deref.ensures ∙ t.3
    ∙ ap (λ (u : IndexState). u.index) (sym (index_is c.take_index-held.new.pass.account.me.0 t.0 t.1.index)))
    ∙ c.learn_leaves.ensures.told) c.leaf_of-range.ensures.exists

pub returns-then-is_below-clause-chosen : goal.returns-then-is_below-clause-chosen
returns-then-is_below-clause-chosen g c = (
  record {
    index = c.deref.result.now;
    range = c.leaf_of-range.result;
    holds = c.leaf_of-range.ensures.range;
    leaf_is = refl;
    next = c.key_after-key.ensures;
  },
  sym c.is_below.ensures ∙ c.if-is_below.true,
)
