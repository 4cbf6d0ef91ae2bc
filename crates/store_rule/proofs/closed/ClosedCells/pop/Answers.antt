use Rattle.std.proofs.Common.{◌≡◌, ◌∙◌, ◌∷◌, ◌-◌, ◌+◌, ℕ, [], ap, arith, length, length-append, subst, sym}
use Rattle.std.specs.Prelude.{Some}
use Rattle.gap_segment.specs.Fenced.{FencedRows}
use Rattle.loaded_cells.specs.CellsModel.Cells.{CellState, unpacked}
use Rattle.store_rule.specs.Closed.{IsPopped, known_segments}
use Rattle.store_rule.proofs.CloseLemmas.{front_at_rest, front_spelled, known_last, last_at_rest}
use Rattle.store_rule.proofs.closed.ClosedCells.pop.Goals as goal

pub pop_resting-resting-requires : goal.pop_resting-resting-requires
pop_resting-resting-requires c =
    let count = c.self.invariant.1 in let some = c.if-left-eq0.false in omega (arith, count, some)

pub wake_cell-segment-requires-clause-cell : goal.wake_cell-segment-requires-clause-cell
wake_cell-segment-requires-clause-cell c =
    let bound = c.self.invariant.2 in let some = c.if-left-eq0.false in omega (arith, bound, some)

pub wake_cell-segment-requires-clause-packed : goal.wake_cell-segment-requires-clause-packed
wake_cell-segment-requires-clause-packed c =
    let list = c.pop_resting-resting.new.list.items in
    let count = c.self.invariant.1 in
    let more = ap length c.pop_resting-resting.ensures
    ∙ length-append list (c.pop_resting-resting.result ∷ []) in
    let last : c.self.inside.left - 1 ≡ length list = omega (arith, count, more) in
    last_at_rest c.self.inside.account.me.0 c.self.inside.resting.items list c.pop_resting-resting.result
    (c.self.inside.left - 1) c.self.invariant.3 c.pop_resting-resting.ensures last

pub wake_cell-segment-requires-clause-room : goal.wake_cell-segment-requires-clause-room
wake_cell-segment-requires-clause-room c = ap (λ (x : FencedRows). x.rows) c.in_ok-room.ensures

pub invariant_of-self : goal.invariant_of-self
invariant_of-self c =
    let v = c.self.inside.account.me.0 in
    let w = c.wake_cell-segment.new.account.me.0 in
    let old = c.self.inside.resting.items in
    let list = c.pop_resting-resting.new.list.items in
    let resting = c.pop_resting-resting.result in
    let m : ℕ = c.self.inside.left - 1 in
    let count = c.self.invariant.1 in
    let some = c.if-left-eq0.false in
    let more = ap length c.pop_resting-resting.ensures ∙ length-append list (resting ∷ []) in
    let last : m ≡ length list = omega (arith, count, more) in
    let rest = last_at_rest v old list resting m c.self.invariant.3 c.pop_resting-resting.ensures last in
    let state : CellState = rest.0 in
    let knows = c.wake_cell-segment.ensures.unpacked state rest.1 in
    let view = ap (λ x. x.0) knows.me in
    let bound = c.self.invariant.2 in (
      knows.table ∙ c.self.invariant.0,
      sym last,
      omega (arith, bound),
      front_at_rest v w old list resting m (unpacked state) c.self.invariant.3 c.pop_resting-resting.ensures last view,
      front_spelled v w c.self.inside.left m (unpacked state) (omega (arith, count, more, last)) view c.self.invariant.4,
    )

pub returns-clause-popped : goal.returns-clause-popped
returns-clause-popped c =
    let v = c.self.inside.account.me.0 in
    let w = c.wake_cell-segment.new.account.me.0 in
    let old = c.self.inside.resting.items in
    let list = c.pop_resting-resting.new.list.items in
    let resting = c.pop_resting-resting.result in
    let m : ℕ = c.self.inside.left - 1 in
    let count = c.self.invariant.1 in
    let some = c.if-left-eq0.false in
    let more = ap length c.pop_resting-resting.ensures ∙ length-append list (resting ∷ []) in
    let last : m ≡ length list = omega (arith, count, more) in
    let rest = last_at_rest v old list resting m c.self.invariant.3 c.pop_resting-resting.ensures last in
    let state : CellState = rest.0 in
    let knows = c.wake_cell-segment.ensures.unpacked state rest.1 in
    let view = ap (λ x. x.0) knows.me in
    let one : c.self.inside.left ≡ m + 1 = omega (arith, count, more, last) in
    subst (λ l. IsPopped l (known_segments w m) (Some c.wake_cell-segment.result)) c.self.view_is
    (known_last v w c.self.inside.left m state (unpacked state) c.wake_cell-segment.result one rest.1 view
    (c.wake_cell-segment.ensures.segment state rest.1))
