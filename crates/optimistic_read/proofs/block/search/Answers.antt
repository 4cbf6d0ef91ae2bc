use Rattle.std.proofs.Common.{◌∙◌, ◌+◌, ◌*◌, ◌-◌, ◌/◌, sym, arith}
use Rattle.optimistic_read.proofs.LoadLemmas.{Halved, goes_down, goes_up, key_on, reads_of, search_begins, search_ends, still_here}
use Rattle.optimistic_read.proofs.block.search.Goals as goal

pub halves-init : goal.halves-init
halves-init c = (
  still_here c.args.seat.now,
  omega arith,
  search_begins c.args.read.block.cell c.args.read.first c.args.seat.now.me.0 c.args.head c.args.key c.requires.reading,
)

pub load_key-middle-requires-clause-reading : goal.load_key-middle-requires-clause-reading
load_key-middle-requires-clause-reading c =
    let r = c.args.read in
    reads_of r.block.cell r.first c.halves.seat.me.0
    (Halved r.block.cell r.first c.args.head c.args.key c.halves.place c.halves.rest) c.halves.invariant.2

pub halves-preserved-then-is_below : goal.halves-preserved-then-is_below
halves-preserved-then-is_below c =
    let r = c.args.read in
    let h = c.halves.invariant in
    let some = c.halves-test.true in
    let within = h.1 in
    let half = c.halves.rest / 2 in
    let middle = c.load_key-middle in (
      key_on c.args.seat.now c.halves.seat middle.new.seat (6 + 3 * (c.halves.place + half)) middle.result h.0
          middle.ensures.loaded,
      omega (arith, some, within),
      goes_up r.block.cell r.first c.args.head c.args.key c.halves.place c.halves.rest half middle.result c.halves.seat.me.0
          middle.new.seat.me.0 (omega (arith, some)) (λ i. (middle.ensures.loaded.me i).0) h.2
          (sym c.is_below.ensures ∙ c.if-is_below.true) (c.halves.place + (half + 1)) (c.halves.rest - (half + 1))
          (omega arith) (omega (arith, some)),
    )

pub halves-preserved : goal.halves-preserved
halves-preserved c =
    let r = c.args.read in
    let h = c.halves.invariant in
    let some = c.halves-test.true in
    let within = h.1 in
    let half = c.halves.rest / 2 in
    let middle = c.load_key-middle in (
      key_on c.args.seat.now c.halves.seat middle.new.seat (6 + 3 * (c.halves.place + half)) middle.result h.0
          middle.ensures.loaded,
      omega (arith, some, within),
      goes_down r.block.cell r.first c.args.head c.args.key c.halves.place c.halves.rest half middle.result c.halves.seat.me.0
          middle.new.seat.me.0 (omega (arith, some)) (λ i. (middle.ensures.loaded.me i).0) h.2
          (sym c.is_below.ensures ∙ c.if-is_below.false),
    )

pub returns-clause-searched : goal.returns-clause-searched
returns-clause-searched c =
    let none = c.halves-test.false in
    search_ends c.args.read.block.cell c.args.read.first c.halves.seat.me.0 c.args.head c.args.key c.halves.place
    c.halves.rest (omega (arith, none)) c.halves.invariant.2
