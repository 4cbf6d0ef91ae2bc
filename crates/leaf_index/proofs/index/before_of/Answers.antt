use Rattle.std.proofs.Common.{refl, sym, ◌∙◌, ap, subst, arith}
use Rattle.std.proofs.lemmas.Option.{slice_get_read}
use Rattle.graph_model.specs.Rows.{is_below, end_key}
use Rattle.leaf_index.specs.Slots.{HaveSlots}
use Rattle.leaf_index.proofs.SlotLemmas.{candidate, candidate_within, candidate_before, before_none, before_some, slot_at, low_read, read_as}
use Rattle.leaf_index.proofs.index.before_of.Goals as goal

pub index-requires : goal.index-requires
index-requires c =
    let m = candidate c.args.key c.args.trie.now c.search-found.result c.in-Some.leaf c.search-found.ensures c.in-Some.is in
    omega (arith, candidate_within c.args.slots.now.items _ _ c.in-Some.leaf c.requires m)

pub returns-in-Some : goal.returns-in-Some
returns-in-Some c =
    let slots = c.args.slots.now.items in
    let m = candidate c.args.key c.args.trie.now c.search-found.result c.in-Some.leaf c.search-found.ensures c.in-Some.is in
    let h = slot_at slots end_key m.front m.start m.back (subst (HaveSlots slots end_key) m.is c.requires) in
    let there = slice_get_read slots _ c.in-Some.leaf c.index.result.now refl (candidate_within slots _ _ c.in-Some.leaf c.requires m) c.index.ensures in
    let low = read_as c.index.result.now.cuts 0 m.start.low _ (low_read slots m.start c.in-Some.leaf _ c.index.result.now h m.same there) in
    candidate_before c.args.key c.args.trie.now c.in-Some.leaf m (ap (λ k. is_below k c.args.key) (sym low) ∙ sym c.if-is_below.ensures)

pub returns-in_default : goal.returns-in_default
returns-in_default c =
    let slots = c.args.slots.now.items in
    let m = candidate c.args.key c.args.trie.now c.search-found.result c.in-Some.leaf c.search-found.ensures c.in-Some.is in
    let there = slice_get_read slots _ c.in-Some.leaf c.index.result.now refl (candidate_within slots _ _ c.in-Some.leaf c.requires m) c.index.ensures in
    before_some slots c.args.key c.args.trie.now c.search-found.result c.in-Some.leaf c.index.result.now _ c.requires c.search-found.ensures c.in-Some.is there (sym c.if-is_below.ensures)

pub returns-in_default-2 : goal.returns-in_default-2
returns-in_default-2 c = before_none c.args.key c.args.trie.now c.search-found.result c.search-found.ensures c.in_default.is
