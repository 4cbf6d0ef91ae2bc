use Rattle.std.proofs.Common.{ap, sym, subst, ◌∙◌, ◌≡◌, length, arith}
use Rattle.leaf_array.specs.Segments.{rows_of}
use Rattle.leaf_array.specs.Leaves.{IsPlaced}
use Rattle.leaf_array.proofs.PairLemmas.{none-in-front, none-behind, rows-append, low-read, high-read, half-given, half-room}
use Rattle.leaf_array.proofs.pairs.give_half.Goals as goal

pub place_all-requires : goal.place_all-requires
place_all-requires c =
    let front = c.split_at_mut-front in
    let none = sym (rows-append front.result.0.now front.result.1.now) ∙ (ap rows_of (sym front.ensures.value) ∙ c.requires.empty) in
    ap rows_of c.swap_with_slice.ensures.after ∙ none-in-front (rows_of front.result.0.now) (rows_of front.result.1.now) none

pub place_all-requires-2 : goal.place_all-requires-2
place_all-requires-2 c =
    let front = c.split_at_mut-front in
    let none = sym (rows-append front.result.0.now front.result.1.now) ∙ (ap rows_of (sym front.ensures.value) ∙ c.requires.empty) in
    none-behind (rows_of front.result.0.now) (rows_of front.result.1.now) none

pub returns-clause-gives : goal.returns-clause-gives
returns-clause-gives c =
    let moved = c.split_at_mut-moved in
    let front = c.split_at_mut-front in
    let outs = c.swap_with_slice.ensures.other_after in
    let four : length moved.result.1.now ≡ 4 = omega (arith, moved.ensures.back_len, c.requires.left.segments) in
    let placed = subst (λ ss. IsPlaced c.low-low.result ss c.place_all.new.segments) c.swap_with_slice.ensures.after c.place_all.ensures in
    half-given c.args.left.now c.args.right.now moved.result.0.now moved.result.1.now front.result.0.now front.result.1.now c.place_all.new.segments c.swap_with_slice.new.other c.place_all-2.new.segments
    c.low-low.result c.high-high.result moved.ensures.value front.ensures.value moved.ensures.front_len front.ensures.front_len c.requires.left c.requires.right c.requires.empty
    (low-read moved.result.1.now c.swap_with_slice.new.other c.index-front-0.result c.low-low.result outs four c.index-front-0.is c.low-low.ensures)
    (high-read moved.result.1.now c.swap_with_slice.new.other c.index-front-3.result c.high-high.result outs four c.index-front-3.is c.high-high.ensures)
    placed c.place_all-2.ensures outs

pub returns-clause-room : goal.returns-clause-room
returns-clause-room c =
    let moved = c.split_at_mut-moved in
    let front = c.split_at_mut-front in
    let outs = c.swap_with_slice.ensures.other_after in
    let four : length moved.result.1.now ≡ 4 = omega (arith, moved.ensures.back_len, c.requires.left.segments) in
    let placed = subst (λ ss. IsPlaced c.low-low.result ss c.place_all.new.segments) c.swap_with_slice.ensures.after c.place_all.ensures in
    half-room c.args.left.now c.args.right.now moved.result.0.now moved.result.1.now front.result.0.now front.result.1.now c.place_all.new.segments c.swap_with_slice.new.other c.place_all-2.new.segments
    c.low-low.result c.high-high.result moved.ensures.value front.ensures.value moved.ensures.front_len front.ensures.front_len c.requires.left c.requires.right c.requires.empty
    (low-read moved.result.1.now c.swap_with_slice.new.other c.index-front-0.result c.low-low.result outs four c.index-front-0.is c.low-low.ensures)
    (high-read moved.result.1.now c.swap_with_slice.new.other c.index-front-3.result c.high-high.result outs four c.index-front-3.is c.high-high.ensures)
    placed c.place_all-2.ensures outs
