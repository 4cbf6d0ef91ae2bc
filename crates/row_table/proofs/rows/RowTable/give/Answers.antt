use Rattle.std.proofs.Common.{◌≡◌, ◌+◌, ◌≤◌, ◌∙◌, ◌++◌, length, length-append, ap, sym, arith}
use Rattle.gap_segment.specs.Fenced.{FencedRows}
use Rattle.row_table.proofs.TableLemmas.{none_placed}
use Rattle.row_table.proofs.ShareLemmas.{can_give, give_front, give_low, give_behind, give_tables, give_room, settled_tables}
use Rattle.row_table.proofs.rows.RowTable.give.Goals as goal

pub returns-then-is_empty-2-clause-moved : goal.returns-then-is_empty-2-clause-moved
returns-then-is_empty-2-clause-moved c =
    let is_l = rw (← c.self.view_is) at c.requires.left in
    let is_r = rw (← c.right.view_is) at c.requires.right in
    let meet = rw (← c.self.view_is, ← c.right.view_is) at c.requires.neighbours in
    rw (c.share.ensures.left, c.share.ensures.right, ← c.self.view_is, ← c.right.view_is)
    (settled_tables c.self.inside.rows c.right.inside.rows c.args.chains.now c.args.right_chains.now c.self.inside.heads c.right.inside.heads c.args.count is_l.fenced is_r.fenced meet
    (none_placed c.self.inside.heads.entries (sym c.is_empty.ensures ∙ c.if-is_empty.true)) (none_placed c.right.inside.heads.entries (sym c.is_empty-then-is_empty.ensures ∙ c.if-is_empty-2.true)))

pub hand_each-requires : goal.hand_each-requires
hand_each-requires c =
    let is_l = rw (← c.self.view_is) at c.requires.left in
    let is_r = rw (← c.right.view_is) at c.requires.right in
    let meet = rw (← c.self.view_is, ← c.right.view_is) at c.requires.neighbours in
    let up = rw c.len-len.ensures.len at c.raise.ensures.heads in
    let few : c.args.count ≤ length c.self.inside.rows.rows = rw (← c.self.view_is) at c.requires.count in
    let fits = rw (← c.self.view_is, ← c.right.view_is) at c.requires.spare in
    rw (c.rows.ensures.rows, c.rows-2.ensures.rows) (can_give c.self.inside.rows c.right.inside.rows c.args.chains.now c.args.right_chains.now c.self.inside.heads c.right.inside.heads c.raise.new.self is_l is_r meet c.self.invariant up c.args.count c.len-len.result few c.len-len.ensures.len c.len-len.ensures.small c.raise.ensures.spare fits)

pub lower-requires : goal.lower-requires
lower-requires c =
    let is_l = rw (← c.self.view_is) at c.requires.left in
    let is_r = rw (← c.right.view_is) at c.requires.right in
    let meet = rw (← c.self.view_is, ← c.right.view_is) at c.requires.neighbours in
    let up = rw c.len-len.ensures.len at c.raise.ensures.heads in
    let few : c.args.count ≤ length c.self.inside.rows.rows = rw (← c.self.view_is) at c.requires.count in
    give_low c.self.inside.rows c.right.inside.rows c.args.chains.now c.args.right_chains.now c.self.inside.heads c.right.inside.heads c.raise.new.self is_l is_r meet c.self.invariant up c.hand_each.new.from_heads c.hand_each.new.to_heads c.args.count c.len-len.result c.len-len.ensures.len few c.hand_each.ensures.places

pub invariant_of-right-2 : goal.invariant_of-right-2
invariant_of-right-2 c =
    let is_l = rw (← c.self.view_is) at c.requires.left in
    let is_r = rw (← c.right.view_is) at c.requires.right in
    let meet = rw (← c.self.view_is, ← c.right.view_is) at c.requires.neighbours in
    let up = rw c.len-len.ensures.len at c.raise.ensures.heads in
    let few : c.args.count ≤ length c.self.inside.rows.rows = rw (← c.self.view_is) at c.requires.count in
    give_behind c.self.inside.rows c.right.inside.rows c.args.chains.now c.args.right_chains.now c.self.inside.heads c.right.inside.heads c.raise.new.self is_l is_r meet c.self.invariant up c.hand_each.new.from_heads c.hand_each.new.to_heads c.args.count c.len-len.result c.len-len.ensures.len few c.hand_each.ensures.places
    c.right.invariant c.lower.new.self c.lower.ensures.heads (length c.share-2.new.right.rows) (ap (λ (s : FencedRows). length s.rows) c.share-2.ensures.right)

pub returns-clause-moved : goal.returns-clause-moved
returns-clause-moved c =
    let is_l = rw (← c.self.view_is) at c.requires.left in
    let is_r = rw (← c.right.view_is) at c.requires.right in
    let meet = rw (← c.self.view_is, ← c.right.view_is) at c.requires.neighbours in
    let up = rw c.len-len.ensures.len at c.raise.ensures.heads in
    let few : c.args.count ≤ length c.self.inside.rows.rows = rw (← c.self.view_is) at c.requires.count in
    let total : length (c.self.inside.rows.rows ++ c.right.inside.rows.rows) ≡ length c.self.inside.rows.rows + length c.right.inside.rows.rows = length-append c.self.inside.rows.rows c.right.inside.rows.rows in
    let hands = rw (c.rows.ensures.rows, c.rows-2.ensures.rows) at c.hand_each.ensures in
    let front = give_front c.self.inside.rows c.right.inside.rows c.args.chains.now c.args.right_chains.now c.self.inside.heads c.right.inside.heads c.raise.new.self is_l is_r meet c.self.invariant up c.hand_each.new.from_heads c.hand_each.new.to_heads c.args.count c.len-len.result c.len-len.ensures.len few c.hand_each.ensures.places in
    let low = give_low c.self.inside.rows c.right.inside.rows c.args.chains.now c.args.right_chains.now c.self.inside.heads c.right.inside.heads c.raise.new.self is_l is_r meet c.self.invariant up c.hand_each.new.from_heads c.hand_each.new.to_heads c.args.count c.len-len.result c.len-len.ensures.len few c.hand_each.ensures.places in
    rw (c.share-2.ensures.left, c.share-2.ensures.right, ← c.self.view_is, ← c.right.view_is) (give_tables c.self.inside.rows c.right.inside.rows c.args.chains.now c.args.right_chains.now c.self.inside.heads c.right.inside.heads c.raise.new.self is_l is_r meet c.self.invariant up c.hand_each.new.from c.hand_each.new.to c.hand_each.new.from_heads c.hand_each.new.to_heads c.lower.new.self c.args.count (omega (arith, few, total)) c.right.invariant c.lower.ensures.heads front low c.len-len.result c.len-len.ensures.len few hands)

pub returns-clause-spare : goal.returns-clause-spare
returns-clause-spare c =
    let is_l = rw (← c.self.view_is) at c.requires.left in
    let is_r = rw (← c.right.view_is) at c.requires.right in
    let meet = rw (← c.self.view_is, ← c.right.view_is) at c.requires.neighbours in
    let up = rw c.len-len.ensures.len at c.raise.ensures.heads in
    let few : c.args.count ≤ length c.self.inside.rows.rows = rw (← c.self.view_is) at c.requires.count in
    let total : length (c.self.inside.rows.rows ++ c.right.inside.rows.rows) ≡ length c.self.inside.rows.rows + length c.right.inside.rows.rows = length-append c.self.inside.rows.rows c.right.inside.rows.rows in
    let hands = rw (c.rows.ensures.rows, c.rows-2.ensures.rows) at c.hand_each.ensures in
    let front = give_front c.self.inside.rows c.right.inside.rows c.args.chains.now c.args.right_chains.now c.self.inside.heads c.right.inside.heads c.raise.new.self is_l is_r meet c.self.invariant up c.hand_each.new.from_heads c.hand_each.new.to_heads c.args.count c.len-len.result c.len-len.ensures.len few c.hand_each.ensures.places in
    let low = give_low c.self.inside.rows c.right.inside.rows c.args.chains.now c.args.right_chains.now c.self.inside.heads c.right.inside.heads c.raise.new.self is_l is_r meet c.self.invariant up c.hand_each.new.from_heads c.hand_each.new.to_heads c.args.count c.len-len.result c.len-len.ensures.len few c.hand_each.ensures.places in
    rw (c.share-2.ensures.left, c.share-2.ensures.right, ← c.self.view_is, ← c.right.view_is) (give_room c.self.inside.rows c.right.inside.rows c.args.chains.now c.args.right_chains.now c.self.inside.heads c.right.inside.heads c.raise.new.self is_l is_r meet c.self.invariant up c.hand_each.new.from c.hand_each.new.to c.hand_each.new.from_heads c.hand_each.new.to_heads c.lower.new.self c.args.count (omega (arith, few, total)) c.right.invariant c.lower.ensures.heads front low c.len-len.result c.len-len.ensures.len few hands c.raise.ensures.spare c.lower.ensures.spare)
