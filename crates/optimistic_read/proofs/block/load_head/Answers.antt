use Rattle.optimistic_read.proofs.LoadLemmas.{head_known, key_on, reads_after_key, reads_of_begun, reads_on, still_here, word_on}
use Rattle.optimistic_read.proofs.block.load_head.Goals as goal

pub block_load-count-requires-clause-reading : goal.block_load-count-requires-clause-reading
block_load-count-requires-clause-reading c =
    reads_of_begun c.args.read.block.cell c.args.read.first c.args.seat.now.me.0 c.requires.begun

pub load_key-low-requires-clause-reading : goal.load_key-low-requires-clause-reading
load_key-low-requires-clause-reading c =
    let r = c.args.read in
    let s0 = c.args.seat.now in
    let one = c.block_load-count in
    reads_on r.block.cell 1 one.result s0.me.0 one.new.seat.me.0 (λ i. (one.ensures.loaded.me i).0)
    (reads_of_begun r.block.cell r.first s0.me.0 c.requires.begun)

pub load_key-high-requires-clause-reading : goal.load_key-high-requires-clause-reading
load_key-high-requires-clause-reading c =
    let r = c.args.read in
    let s0 = c.args.seat.now in
    let one = c.block_load-count in
    let two = c.load_key-low in
    reads_after_key r.block.cell 2 two.result one.new.seat.me.0 two.new.seat.me.0 (λ i. (two.ensures.loaded.me i).0)
    (reads_on r.block.cell 1 one.result s0.me.0 one.new.seat.me.0 (λ i. (one.ensures.loaded.me i).0)
    (reads_of_begun r.block.cell r.first s0.me.0 c.requires.begun))

pub returns-clause-still : goal.returns-clause-still
returns-clause-still c =
    let s0 = c.args.seat.now in
    let one = c.block_load-count in
    let two = c.load_key-low in
    let three = c.load_key-high in
    key_on s0 two.new.seat three.new.seat 4 three.result
    (key_on s0 one.new.seat two.new.seat 2 two.result
    (word_on s0 s0 one.new.seat 1 one.result (still_here s0) one.ensures.loaded) two.ensures.loaded)
    three.ensures.loaded

pub returns-clause-known : goal.returns-clause-known
returns-clause-known c =
    let r = c.args.read in
    let one = c.block_load-count in
    let two = c.load_key-low in
    let three = c.load_key-high in
    head_known r.block.cell r.first one.result c.min.result two.result three.result c.args.seat.now.me.0 one.new.seat.me.0
    two.new.seat.me.0 three.new.seat.me.0 c.min.ensures c.requires.begun (λ i. (one.ensures.loaded.me i).0)
    (λ i. (two.ensures.loaded.me i).0) (λ i. (three.ensures.loaded.me i).0)
