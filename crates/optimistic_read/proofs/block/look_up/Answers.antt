use Rattle.std.proofs.Common.{arith}
use Rattle.optimistic_read.specs.Reads.{IsSearched}
use Rattle.optimistic_read.proofs.LoadLemmas.{none_looked_up, reads_of, row_looked_up, row_on, still_then}
use Rattle.optimistic_read.proofs.block.look_up.Goals as goal

pub load_row-row-requires-clause-reading : goal.load_row-row-requires-clause-reading
load_row-row-requires-clause-reading c =
    reads_of c.args.read.block.cell c.args.read.first c.search-place.new.seat.me.0
    (IsSearched c.load_head-head.result c.args.key c.search-place.result) c.search-place.ensures.searched

pub returns-then-place-head-clause-still : goal.returns-then-place-head-clause-still
returns-then-place-head-clause-still c =
    let s0 = c.args.seat.now in
    let s1 = c.load_head-head.new.seat in
    let s2 = c.search-place.new.seat in
    row_on s0 s2 c.load_row-row.new.seat c.search-place.result c.load_row-row.result
    (still_then s0 s1 s2 c.load_head-head.ensures.still c.search-place.ensures.still) c.load_row-row.ensures.loaded

pub returns-then-place-head-clause-known : goal.returns-then-place-head-clause-known
returns-then-place-head-clause-known c =
    row_looked_up c.args.read.block.cell c.args.read.first c.load_head-head.result c.args.key c.search-place.result
    c.load_row-row.result c.search-place.new.seat.me.0 c.load_row-row.new.seat.me.0 c.if-place-head.true
    (λ i. (c.load_row-row.ensures.loaded.me i).0) c.search-place.ensures.searched

pub returns-else-place-head-clause-still : goal.returns-else-place-head-clause-still
returns-else-place-head-clause-still c =
    still_then c.args.seat.now c.load_head-head.new.seat c.search-place.new.seat c.load_head-head.ensures.still
    c.search-place.ensures.still

pub returns-else-place-head-clause-known : goal.returns-else-place-head-clause-known
returns-else-place-head-clause-known c =
    let no = c.if-place-head.false in
    none_looked_up c.args.read.block.cell c.args.read.first c.load_head-head.result c.args.key c.search-place.result
    c.search-place.new.seat.me.0 (omega (arith, no)) c.search-place.ensures.searched
