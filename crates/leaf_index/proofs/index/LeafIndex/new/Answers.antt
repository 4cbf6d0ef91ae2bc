use Rattle.std.proofs.Common.{◌≡◌, length, sym, ◌∙◌, ap}
use Rattle.leaf_index.specs.Idle.{Idle}
use Rattle.leaf_index.proofs.IndexLemmas.{first_length, kept_new}
use Rattle.leaf_index.proofs.HintLemmas.{new_live}
use Rattle.leaf_index.proofs.index.LeafIndex.new.Goals as goal

pub invariant_of-result : goal.invariant_of-result
invariant_of-result c =
    let kept = kept_new c.args.leaves c.requires.some c.requires.few in
    let wide : length c.in_ok-slots.slots.items ≡ c.args.leaves = ap length c.in_ok-slots.ensures ∙ first_length c.args.leaves in
    (rw (c.in_ok-slots.ensures, c.in_ok-trie.ensures, c.in_ok-idle.ensures) kept, ap (λ (i : Idle). i.leaves) c.in_ok-idle.ensures ∙ sym wide, rw (c.in_ok-slots.ensures, c.in_ok-trie.ensures) (new_live c.args.leaves))
