use Rattle.std.proofs.Common.{◌≡◌, ◌+◌, ◌-◌, ◌∙◌, length, arith, ap, sym, refl}
use Rattle.optimistic_read.proofs.LoadLemmas.{row_on}
use Rattle.optimistic_read.proofs.RunLemmas.{length_more, run_begins, run_ends, run_ends_at, run_goes_on, run_is_full, run_is_marked}
use Rattle.optimistic_read.proofs.run.load_rows.Goals as goal

pub rows-init : goal.rows-init
rows-init c =
    let len = c.len-room.ensures.len in
    let few = c.len-room.ensures.few in (
      c.first_place-place.ensures.still,
      c.first_place-place.ensures.within,
      omega (arith, len, few),
      run_begins c.args.read.block.cell c.args.read.first c.args.head c.args.from c.args.until c.args.rows.now
          c.first_place-place.result (64 - c.len-room.result) c.first_place-place.new.seat.me.0 (ap (λ n. 64 - n) len)
          c.first_place-place.ensures.searched,
    )

pub returns-then-is_beyond-clause-known : goal.returns-then-is_beyond-clause-known
returns-then-is_beyond-clause-known c =
    run_ends_at c.args.read.block.cell c.args.read.first c.args.head c.args.from c.args.until c.args.rows.now
    c.requires.holds c.rows.place c.rows.room c.rows.rows c.load_row-row.result c.rows.seat.me.0
    c.load_row-row.new.seat.me.0 c.rows-test.true (λ i. (c.load_row-row.ensures.loaded.me i).0) c.rows.invariant.3
    c.is_not_behind-inside.result (sym c.is_beyond.ensures ∙ c.if-is_beyond.true)

pub returns-then-room-eq0-clause-known : goal.returns-then-room-eq0-clause-known
returns-then-room-eq0-clause-known c =
    let none = c.if-room-eq0.true in
    run_is_full c.args.read.block.cell c.args.read.first c.args.head c.args.from c.args.until c.args.rows.now
    c.requires.holds c.rows.place c.rows.room c.rows.rows c.load_row-row.result c.rows.seat.me.0
    c.load_row-row.new.seat.me.0 c.rows-test.true (λ i. (c.load_row-row.ensures.loaded.me i).0) c.rows.invariant.3
    c.is_not_behind-inside.result c.is_not_behind-inside.ensures (sym c.is_beyond.ensures ∙ c.if-is_beyond.false)
    (omega (arith, none))

pub returns-then-is_marked-clause-known : goal.returns-then-is_marked-clause-known
returns-then-is_marked-clause-known c =
    let some = c.if-room-eq0.false in
    run_is_marked c.args.read.block.cell c.args.read.first c.args.head c.args.from c.args.until c.args.rows.now
    c.requires.holds c.rows.place c.rows.room c.rows.rows c.load_row-row.result c.rows.seat.me.0
    c.load_row-row.new.seat.me.0 c.rows-test.true (λ i. (c.load_row-row.ensures.loaded.me i).0) c.rows.invariant.3
    c.is_not_behind-inside.result c.is_not_behind-inside.ensures (sym c.is_beyond.ensures ∙ c.if-is_beyond.false)
    (λ e. omega (arith, e, some)) (sym c.is_marked.ensures ∙ c.if-is_marked.true)

pub rows-preserved : goal.rows-preserved
rows-preserved c =
    let less = c.rows-test.true in
    let sum = c.rows.invariant.2 in
    let some = c.if-room-eq0.false in
    let count : length c.push.new.self ≡ length c.rows.rows + 1 = ap length c.push.ensures
    ∙ length_more c.rows.rows c.load_row-row.result in (
      row_on c.args.seat.now c.rows.seat c.load_row-row.new.seat c.rows.place c.load_row-row.result c.rows.invariant.0
          c.load_row-row.ensures.loaded,
      omega (arith, less),
      omega (arith, sum, some, count),
      run_goes_on c.args.read.block.cell c.args.read.first c.args.head c.args.from c.args.until c.args.rows.now
          c.requires.holds c.rows.place c.rows.room c.rows.rows c.load_row-row.result c.rows.seat.me.0
          c.load_row-row.new.seat.me.0 less (λ i. (c.load_row-row.ensures.loaded.me i).0) c.rows.invariant.3
          c.is_not_behind-inside.result c.is_not_behind-inside.ensures (sym c.is_beyond.ensures ∙ c.if-is_beyond.false)
          (λ e. omega (arith, e, some)) (sym c.is_marked.ensures ∙ c.if-is_marked.false) (c.rows.place + 1)
          (c.rows.room - 1) c.push.new.self (omega arith) refl c.push.ensures,
    )

pub returns-clause-known : goal.returns-clause-known
returns-clause-known c =
    let none = c.rows-test.false in
    run_ends c.args.read.block.cell c.args.read.first c.args.head c.args.from c.args.until c.args.rows.now c.requires.holds
    c.rows.place c.rows.room c.rows.rows c.rows.seat.me.0 (omega (arith, none)) c.rows.invariant.3
