use Rattle.std.proofs.Common.{sym, ap, ◌∙◌}
use Rattle.leaf_index.specs.Index.{Index}
use Rattle.cases_leaves.proofs.EndLemmas.{may_add, ends_at, may_drop}
use Rattle.cases_leaves.proofs.hints.split_last.Goals as goal

pub add_leaf-requires-clause-place : goal.add_leaf-requires-clause-place
add_leaf-requires-clause-place c =
    may_add c.args.before c.args.low c.requires.behind c.requires.within _ _ c.requires.last
    (λ can. sym (ap (λ (i : Index). i.entries) c.in-Some.ensures.0) ∙ c.set_separators.ensures.entries can)

pub returns-clause-last : goal.returns-clause-last
returns-clause-last c =
    ends_at c.args.before c.args.low c.requires.behind c.requires.within _ _ c.requires.last
    (λ can. sym (ap (λ (i : Index). i.entries) c.in-Some.ensures.0) ∙ c.set_separators.ensures.entries can)
    c.in-Some.leaf _ c.in_ok-add_leaf.ensures.ok

pub returns-clause-drop : goal.returns-clause-drop
returns-clause-drop c =
    may_drop c.args.before c.args.low c.requires.behind c.requires.within _ _ c.requires.last
    (λ can. sym (ap (λ (i : Index). i.entries) c.in-Some.ensures.0) ∙ c.set_separators.ensures.entries can)
    c.in-Some.leaf _ c.in_ok-add_leaf.ensures.ok
