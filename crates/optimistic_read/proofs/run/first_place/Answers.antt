use Rattle.std.proofs.Common.{◌∙◌, sym}
use Rattle.optimistic_read.proofs.RunLemmas.{at_low}
use Rattle.optimistic_read.proofs.run.first_place.Goals as goal

pub returns-else-is_below-clause-searched : goal.returns-else-is_below-clause-searched
returns-else-is_below-clause-searched c =
    at_low c.args.read.block.cell c.args.read.first c.args.head c.args.from c.args.seat.now.me.0
    (sym c.is_below.ensures ∙ c.if-is_below.false) c.requires.reading
