use Rattle.std.proofs.Common.{refl, sym, ◌∙◌, ◌+◌, ◌*◌, ◌/◌, ap, subst}
use Rattle.std.specs.Prelude.{slice_get, unwrap_or}
use Rattle.std.proofs.lemmas.Option.{slice_get_read}
use Rattle.graph_model.specs.Rows.{end_key}
use Rattle.leaf_index.specs.declared.route.Route.{Route}
use Rattle.leaf_index.specs.declared.slot.IndexSlot.{IndexSlot}
use Rattle.leaf_index.specs.Index.{AreSorted, Index}
use Rattle.leaf_index.specs.Slots.{HaveSlots, begin_or}
use Rattle.leaf_index.proofs.HintLemmas.{hinted}
use Rattle.leaf_index.proofs.SlotLemmas.{slot_at, slot_read, low_read, route_of}
use Rattle.leaf_index.proofs.index.LeafIndex.cell_near.Goals as goal

pub segment_near-requires-clause-low : goal.segment_near-requires-clause-low
segment_near-requires-clause-low c =
    let slots = c.self.inside.slots.items in
    let is = c.self.invariant in
    let found = rw c.deref.ensures.value at c.in-Some.ensures.lookup in
    let there = slice_get_read slots _ (c.args.near / 8) c.in-Some.slot.now refl found.3.0 found.1 in
    let f = hinted slots c.self.inside.trie c.args.key (c.args.near / 8) c.in-Some.slot.now is.0.rising is.0.have is.2 there (sym c.holds.ensures ∙ c.if-holds.true) in
    let h = slot_at slots end_key f.last.front f.start f.last.back (subst (HaveSlots slots end_key) f.last.is is.0.have) in
    (f.start.low, low_read slots f.start (c.args.near / 8) _ c.in-Some.slot.now h f.same there, f.last.from)

pub segment_near-requires-clause-sorted : goal.segment_near-requires-clause-sorted
segment_near-requires-clause-sorted c =
    let slots = c.self.inside.slots.items in
    let is = c.self.invariant in
    let found = rw c.deref.ensures.value at c.in-Some.ensures.lookup in
    let there = slice_get_read slots _ (c.args.near / 8) c.in-Some.slot.now refl found.3.0 found.1 in
    let f = hinted slots c.self.inside.trie c.args.key (c.args.near / 8) c.in-Some.slot.now is.0.rising is.0.have is.2 there (sym c.holds.ensures ∙ c.if-holds.true) in
    let h = slot_at slots end_key f.last.front f.start f.last.back (subst (HaveSlots slots end_key) f.last.is is.0.have) in
    (begin_or f.last.back end_key, subst (λ (slot : IndexSlot). AreSorted slot.cuts (begin_or f.last.back end_key)) (slot_read slots f.start (c.args.near / 8) _ c.in-Some.slot.now h f.same there) h.cuts.sorted)

pub returns-in-Some : goal.returns-in-Some
returns-in-Some c =
    let slots = c.self.inside.slots.items in
    let is = c.self.invariant in
    let leaf = c.args.near / 8 in
    let slot = c.in-Some.slot.now in
    let found = rw c.deref.ensures.value at c.in-Some.ensures.lookup in
    let there = slice_get_read slots _ leaf slot refl found.3.0 found.1 in
    let f = hinted slots c.self.inside.trie c.args.key leaf slot is.0.rising is.0.have is.2 there (sym c.holds.ensures ∙ c.if-holds.true) in
    let at = c.segment_near.ensures in
    let route : Route = record { cell = 8 * leaf + c.segment_near.result; low = at.cut; high = unwrap_or (slice_get slot.cuts (c.segment_near.result + 1)) slot.high } in
    (route, route_of slots c.args.key c.self.inside.trie c.args.self.now.entries leaf c.segment_near.result slot route (ap (λ (i : Index). i.entries) c.self.view_is) is.0.have f there at refl at.there refl, refl)
