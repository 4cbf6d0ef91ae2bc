use Rattle.std.proofs.Common.{sym, ◌∙◌, ap, subst}
use Rattle.leaf_index.specs.Idle.{Idle}
use Rattle.leaf_index.specs.Slots.{IsKept}
use Rattle.leaf_index.proofs.IndexLemmas.{fewer_free, of_none, seen, takes_free}
use Rattle.leaf_index.proofs.index.LeafIndex.take_free.Goals as goal

pub invariant_of-self : goal.invariant_of-self
invariant_of-self c =
    let inside = c.self.inside in
    let same = ap (λ (i : Idle). i.retired) c.take_free.ensures.leaf in
    let kept = subst (λ rs. IsKept inside.slots.items inside.trie inside.idle.free rs) same c.self.invariant.0 in
    (fewer_free _ _ inside.idle.free _ _ c.take_free.result kept (ap (λ (i : Idle). i.free) c.take_free.ensures.leaf), sym (ap (λ (i : Idle). i.leaves) c.take_free.ensures.leaf) ∙ c.self.invariant.1, c.self.invariant.2)

pub returns : goal.returns
returns c =
    let inside = c.self.inside in
    let same = ap (λ (i : Idle). i.retired) c.take_free.ensures.leaf in
    let kept = subst (λ rs. IsKept inside.slots.items inside.trie inside.idle.free rs) same c.self.invariant.0 in
    takes_free inside.slots.items inside.trie inside.idle.free c.take_free.new.self.free c.take_free.new.self.retired _ c.take_free.result (sym (ap (seen inside.slots.items inside.trie inside.idle.free) same) ∙ c.self.view_is) kept
    (ap (λ (i : Idle). i.free) c.take_free.ensures.leaf) (of_none c.take_free.result _ c.take_free.ensures.none)
