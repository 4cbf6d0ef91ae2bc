use Rattle.std.proofs.Common.{◌≡◌, ◌<◌, ◌++◌, List, [], ◌∷◌, sym, ap, ◌∙◌, arith}
use Rattle.leaf_trie.specs.declared.branch.Branch.{Branch}
use Rattle.leaf_trie.proofs.BranchLemmas.{over_child}
use Rattle.leaf_trie.proofs.branch.over.Goals as goal

pub invariant_of-result : goal.invariant_of-result
invariant_of-result c =
    let only : c.push.new.self.items ≡ c.args.child ∷ [] = c.in_ok-push.ensures.items ∙ ap (λ (xs : List Branch). xs ++ c.args.child ∷ []) c.in_ok-branches.ensures.items in
    let o = over_child c.level-level.result _ _ _ c.args.child only (sym c.level-level.ensures) (omega (arith, c.level-level.ensures, c.requires.low)) c.requires.some c.requires.here c.last-last.ensures c.is_single-is_single.ensures in
    ((o.inner, o.few), o.summary)
