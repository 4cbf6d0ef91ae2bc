use Rattle.std.proofs.Common.{◌∙◌, sym}
use Rattle.optimistic_read.proofs.RunLemmas.{none_loaded}
use Rattle.optimistic_read.proofs.LoadLemmas.{still_then}
use Rattle.optimistic_read.proofs.run.load_run.Goals as goal

pub returns-then-not-holds-clause-known : goal.returns-then-not-holds-clause-known
returns-then-not-holds-clause-known c =
    none_loaded c.args.read.block.cell c.args.read.first c.load_head-head.result c.args.from c.args.until c.args.rows.now
    c.load_head-head.new.seat.me.0 (sym c.holds.ensures ∙ c.if-not-holds.true) c.load_head-head.ensures.known

pub load_rows-stop-requires-clause-holds : goal.load_rows-stop-requires-clause-holds
load_rows-stop-requires-clause-holds c = sym c.holds.ensures ∙ c.if-not-holds.false

pub returns-clause-still : goal.returns-clause-still
returns-clause-still c =
    still_then c.args.seat.now c.load_head-head.new.seat c.load_rows-stop.new.seat c.load_head-head.ensures.still
    c.load_rows-stop.ensures.still
