use Rattle.std.proofs.Common.{refl, sym, ◌∙◌}
use Rattle.std.proofs.lemmas.Option.{slice_get_read}
use Rattle.leaf_index.proofs.HintLemmas.{hinted}
use Rattle.leaf_index.proofs.index.leaf_of.Goals as goal

pub returns-in-Some : goal.returns-in-Some
returns-in-Some c =
    let slots = c.args.slots.now.items in
    let found = rw c.deref.ensures.value at c.in-Some.ensures.lookup in
    let there = slice_get_read slots _ c.args.hint c.in-Some.slot.now refl found.3.0 found.1 in
    hinted slots c.args.trie.now c.args.key c.args.hint c.in-Some.slot.now c.requires.rising c.requires.slots c.requires.live there (sym c.holds.ensures ∙ c.if-holds.true)
