use Rattle.std.proofs.Common.{◌≡◌, ◌+◌, length, min, drop, get_or, refl, subst, ◌∙◌, ap, arith}
use Rattle.std.proofs.lemmas.List.{length-drop}
use Rattle.graph_model.specs.Rows.{end_key}
use Rattle.gap_segment.specs.Fenced.{first_key_or}
use Rattle.leaf_index.specs.Index.{Index}
use Rattle.leaf_table.specs.LeafArrayDeclared.leaf.Leaf.{Leaf}
use Rattle.leaf_store.specs.Fill.{IsFilling}
use Rattle.leaf_store.proofs.FillStepLemmas.{can_add, filling_more}
use Rattle.leaf_store.proofs.FillEndLemmas.{behind_of, first_low, front_length, front_of, next_of}
use Rattle.leaf_store.proofs.fill.fill_next.Goals as goal

pub add_leaf-requires-clause-place : goal.add_leaf-requires-clause-place
add_leaf-requires-clause-place c =
    let rows = c.requires.0 in
    let at = c.requires.1 in
    let is = c.requires.2 in
    let low : c.low-low.result ≡ first_key_or (front_of (drop at rows)) end_key =
    c.low-low.ensures ∙ ap (λ (l : Leaf). (get_or l.segments 0 c.index-deref-0.result).low) c.deref.ensures
    ∙ first_low c.args.memory.value.segments (first_key_or (front_of (drop at rows)) end_key) c.index-deref-0.result is.leaf.settled.begins (omega (arith, is.leaf.leaf.segments)) in
    let can = can_add rows (front_of (drop at rows)) (behind_of (drop at rows)) at c.args.index.now c.take_free.new.self c.args.leaves.now.items c.in-Some.leaf is.filling is.more c.in-Some.ensures.0 c.in-Some.ensures.1 (next_of rows at is.order is.more)
    c.args.memory.value.segments is.leaf.settled is.leaf.leaf (rw c.deref-2.ensures at c.cuts_of.ensures.sound) c.cuts_of.result (rw c.deref-2.ensures at c.cuts_of.ensures.cuts) in
    rw low can

pub returns-clause-ok : goal.returns-clause-ok
returns-clause-ok c = λ rows at is.
    let low : c.low-low.result ≡ first_key_or (front_of (drop at rows)) end_key =
    c.low-low.ensures ∙ ap (λ (l : Leaf). (get_or l.segments 0 c.index-deref-0.result).low) c.deref.ensures
    ∙ first_low c.args.memory.value.segments (first_key_or (front_of (drop at rows)) end_key) c.index-deref-0.result is.leaf.settled.begins (omega (arith, is.leaf.leaf.segments)) in
    let count : at + length (front_of (drop at rows)) ≡ min (at + 208) (length rows) = omega (arith, front_length (drop at rows), length-drop at rows, is.more) in
    let adds = rw low at c.in_ok-add_leaf.ensures.ok in
    subst (λ n. IsFilling rows n c.add_leaf.new.self c.put_leaf.new.table.items) count
    (filling_more rows (front_of (drop at rows)) (behind_of (drop at rows)) at c.args.index.now c.take_free.new.self c.args.leaves.now.items c.in-Some.leaf is.filling is.more c.in-Some.ensures.0 c.in-Some.ensures.1 (next_of rows at is.order is.more)
    c.args.memory.value.segments is.leaf.settled is.leaf.leaf (rw c.deref-2.ensures at c.cuts_of.ensures.sound) c.cuts_of.result (rw c.deref-2.ensures at c.cuts_of.ensures.cuts)
    c.add_leaf.new.self c.args.memory c.put_leaf.new.table.items adds c.add_leaf.ensures.others c.is_index.ensures.index refl c.put_leaf.ensures
    (omega (arith, is.filling.count, c.in-Some.ensures.1.exists, ap (λ (i : Index). i.leaves) c.in-Some.ensures.0))
    (omega (arith, front_length (drop at rows), length-drop (min (length (drop at rows)) 208) (drop at rows))) (omega (arith, front_length (drop at rows), length-drop at rows, is.more)))
