use Rattle.std.proofs.Common.{◌≡◌, ◌∙◌, sym, ap, arith, inl, inr}
use Rattle.std.specs.Prelude.{true, false}
use Rattle.head_map.specs.Heads.{PlacedRow}
use Rattle.head_map.specs.Heads.{PlaceTable, heads_placed, is_settled}
use Rattle.head_map.proofs.HeadLemmas.{found_at, index_of, index_below, settled_of, unsettled}
use Rattle.head_map.proofs.PlaceLemmas.{removed_placed, put_set_placed, put_insert_placed, put_set, put_insert, put_remove, put_none, placed_gap}
use Rattle.head_map.proofs.list.HeadList.put.Goals as goal

pub invariant_of-self : goal.invariant_of-self
invariant_of-self c =
    let row = found_at _ c.self.inside.rows.items c.in-Ok.index (rw c.as_slice.ensures.value at c.in-Ok.ensures) in
    rw c.remove.ensures.items (removed_placed c.self.inside.rows.items c.args.place c.in-Ok.index c.self.invariant row.0 row.1 row.2)

pub index_mut-requires : goal.index_mut-requires
index_mut-requires c =
    let row = found_at _ c.self.inside.rows.items c.in-Ok.index (rw c.as_slice.ensures.value at c.in-Ok.ensures) in
    let below = index_below c.self.inside.rows.items c.in-Ok.index row.0 row.1 in omega (arith, below)

pub invariant_of-self-in-Ok-2 : goal.invariant_of-self-in-Ok-2
invariant_of-self-in-Ok-2 c =
    let row = found_at _ c.self.inside.rows.items c.in-Ok.index (rw c.as_slice.ensures.value at c.in-Ok.ensures) in
    let new : is_settled c.args.heads ≡ false = ap is_settled (sym c.heads.ensures) ∙ sym c.is_settled-settled.ensures ∙ c.if-settled.false in
    rw c.set_heads.ensures (put_set_placed c.self.inside.rows.items c.in-Ok.index c.self.invariant row.0 _ row.1 (ap (λ (r : PlacedRow). r.place) (c.index_mut.ensures.value ∙ index_of c.self.inside.rows.items c.in-Ok.index row.0 c.index_mut.result.now row.1)) new)

pub put_row-requires-clause-room : goal.put_row-requires-clause-room
put_row-requires-clause-room c =
    let gap = rw c.as_slice.ensures.value at c.in-Err.ensures in
    let none = placed_gap c.self.inside.rows.items c.args.place _ gap in
    let room = rw (← c.self.view_is) at c.requires.room in
    let new : is_settled c.args.heads ≡ false = ap is_settled (sym c.heads.ensures) ∙ sym c.is_settled-settled.ensures ∙ c.if-settled-2.false in
    elim room [
      | inl lt ↦ omega (arith, lt)
      | inr stays ↦ absurd (unsettled c.args.heads new (stays none))
    ]

pub invariant_of-self-in-Err-2 : goal.invariant_of-self-in-Err-2
invariant_of-self-in-Err-2 c =
    let gap = rw c.as_slice.ensures.value at c.in-Err.ensures in
    let new : is_settled c.args.heads ≡ false = ap is_settled (sym c.heads.ensures) ∙ sym c.is_settled-settled.ensures ∙ c.if-settled-2.false in
    rw (c.put_row.ensures.rows, c.new.ensures) (put_insert_placed c.self.inside.rows.items c.args.place _ c.args.heads c.self.invariant gap new)

pub returns-in-Ok-clause-heads : goal.returns-in-Ok-clause-heads
returns-in-Ok-clause-heads c =
    let row = found_at _ c.self.inside.rows.items c.in-Ok.index (rw c.as_slice.ensures.value at c.in-Ok.ensures) in
    let old : is_settled c.args.heads ≡ true = ap is_settled (sym c.heads.ensures) ∙ sym c.is_settled-settled.ensures ∙ c.if-settled.true in
    rw (c.remove.ensures.items, ← c.self.view_is) (put_remove c.self.inside.rows.items c.args.place c.in-Ok.index c.self.invariant row.0 row.1 row.2 c.args.heads (settled_of c.args.heads old))

pub returns-in-Ok-2-clause-heads : goal.returns-in-Ok-2-clause-heads
returns-in-Ok-2-clause-heads c =
    let row = found_at _ c.self.inside.rows.items c.in-Ok.index (rw c.as_slice.ensures.value at c.in-Ok.ensures) in
    let kept = ap (λ (r : PlacedRow). r.place) (c.index_mut.ensures.value ∙ index_of c.self.inside.rows.items c.in-Ok.index row.0 c.index_mut.result.now row.1) ∙ row.2 in
    rw (c.set_heads.ensures, ← c.self.view_is) (put_set c.self.inside.rows.items c.args.place c.in-Ok.index c.self.invariant row.0 row.1 row.2 (record { place = c.index_mut.result.now.place; heads = c.args.heads }) kept)

pub returns-in-Err-clause-heads : goal.returns-in-Err-clause-heads
returns-in-Err-clause-heads c =
    let gap = rw c.as_slice.ensures.value at c.in-Err.ensures in
    let old : is_settled c.args.heads ≡ true = ap is_settled (sym c.heads.ensures) ∙ sym c.is_settled-settled.ensures ∙ c.if-settled-2.true in
    rw (← c.self.view_is) (put_none c.self.inside.rows.items c.args.place _ c.args.heads gap (settled_of c.args.heads old))

pub returns-in-Err-2-clause-heads : goal.returns-in-Err-2-clause-heads
returns-in-Err-2-clause-heads c =
    let gap = rw c.as_slice.ensures.value at c.in-Err.ensures in
    rw (c.put_row.ensures.rows, c.new.ensures, ← c.self.view_is) (put_insert c.self.inside.rows.items c.args.place _ c.args.heads gap)

pub returns-in-Err-2-clause-kept : goal.returns-in-Err-2-clause-kept
returns-in-Err-2-clause-kept c = λ stays.
    let gap = rw c.as_slice.ensures.value at c.in-Err.ensures in
    let none = placed_gap c.self.inside.rows.items c.args.place _ gap in
    let same = ap (λ (m : PlaceTable). heads_placed m.entries c.args.place) c.self.view_is in
    let new : is_settled c.args.heads ≡ false = ap is_settled (sym c.heads.ensures) ∙ sym c.is_settled-settled.ensures ∙ c.if-settled-2.false in
    absurd (unsettled c.args.heads new (stays (sym same ∙ none)))
