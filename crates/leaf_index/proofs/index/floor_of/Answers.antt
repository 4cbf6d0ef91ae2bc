use Rattle.std.proofs.Common.{subst, refl, sym, ◌∙◌, ap, arith}
use Rattle.std.proofs.lemmas.Option.{slice_get_read}
use Rattle.graph_model.specs.Rows.{is_below, end_key}
use Rattle.leaf_index.specs.Slots.{HaveSlots}
use Rattle.leaf_index.proofs.SlotLemmas.{candidate, candidate_within, beyond_none, beyond_some, floor_before, no_before, slot_at, slot_within, low_read, read_as}
use Rattle.leaf_index.proofs.index.floor_of.Goals as goal
use Rattle.leaf_index.proofs.index.floor_of.Goals.{in_default-via-in-Some+else-not-is_below, in_default-via-in_default}

pub index-requires : goal.index-requires
index-requires c =
    let m = candidate c.args.key c.args.trie.now c.search-found.result c.in-Some.leaf c.search-found.ensures c.in-Some.is in
    let h = slot_at c.args.slots.now.items end_key m.front m.start m.back (subst (HaveSlots c.args.slots.now.items end_key) m.is c.requires.slots) in
    omega (arith, slot_within c.args.slots.now.items m.start c.in-Some.leaf _ h m.same)

pub returns-in-Some : goal.returns-in-Some
returns-in-Some c =
    let slots = c.args.slots.now.items in
    let m = candidate c.args.key c.args.trie.now c.search-found.result c.in-Some.leaf c.search-found.ensures c.in-Some.is in
    let h = slot_at slots end_key m.front m.start m.back (subst (HaveSlots slots end_key) m.is c.requires.slots) in
    let there = slice_get_read slots _ c.in-Some.leaf c.index.result.now refl (slot_within slots m.start c.in-Some.leaf _ h m.same) c.index.ensures in
    let low = read_as c.index.result.now.cuts 0 m.start.low _ (low_read slots m.start c.in-Some.leaf _ c.index.result.now h m.same there) in
    record { start = m.start; same = m.same; last = record { front = m.front; back = m.back; is = m.is; from = ap (is_below c.args.key) (sym low) ∙ sym c.is_below.ensures ∙ c.if-not-is_below.true; above = m.above } }

pub returns-in-Some-before : goal.returns-in-Some-before
returns-in-Some-before c =
    let slots = c.args.slots.now.items in
    elim c.in_default.branch [
      | in_default-via-in-Some+else-not-is_below w ↦
          let m = candidate c.args.key c.args.trie.now c.search-found.result w.in-Some.leaf c.search-found.ensures w.in-Some.is in
          let there = slice_get_read slots _ w.in-Some.leaf w.index.result.now refl (candidate_within slots _ _ w.in-Some.leaf c.requires.slots m) w.index.ensures in
          let b = beyond_some slots c.args.key c.args.trie.now c.search-found.result w.in-Some.leaf w.index.result.now _ c.requires.slots c.search-found.ensures w.in-Some.is there (sym w.if-not-is_below.ensures) in
          floor_before c.args.key c.args.trie.now c.search-found.result c.in-Some-before.leaf b c.in-Some-before.is
      | in_default-via-in_default w ↦
          floor_before c.args.key c.args.trie.now c.search-found.result c.in-Some-before.leaf (beyond_none c.args.key c.args.trie.now c.search-found.result c.search-found.ensures w.in_default.is) c.in-Some-before.is
    ]

pub unreachable-requires : goal.unreachable-requires
unreachable-requires c =
    let slots = c.args.slots.now.items in
    elim c.in_default.branch [
      | in_default-via-in-Some+else-not-is_below w ↦
          let m = candidate c.args.key c.args.trie.now c.search-found.result w.in-Some.leaf c.search-found.ensures w.in-Some.is in
          let there = slice_get_read slots _ w.in-Some.leaf w.index.result.now refl (candidate_within slots _ _ w.in-Some.leaf c.requires.slots m) w.index.ensures in
          let b = beyond_some slots c.args.key c.args.trie.now c.search-found.result w.in-Some.leaf w.index.result.now _ c.requires.slots c.search-found.ensures w.in-Some.is there (sym w.if-not-is_below.ensures) in
          no_before c.args.key c.args.trie.now c.search-found.result b c.in-None.is c.requires.first
      | in_default-via-in_default w ↦
          no_before c.args.key c.args.trie.now c.search-found.result (beyond_none c.args.key c.args.trie.now c.search-found.result c.search-found.ensures w.in_default.is) c.in-None.is c.requires.first
    ]
