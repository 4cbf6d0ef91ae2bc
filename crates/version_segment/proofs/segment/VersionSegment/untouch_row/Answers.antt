use Rattle.std.proofs.Common.{sym, ◌∙◌}
use Rattle.version_segment.proofs.LookupLemmas.{none_untouched}
use Rattle.version_segment.proofs.segment.VersionSegment.untouch_row.Goals as goal

pub returns-else-has_row-clause-untouched : goal.returns-else-has_row-clause-untouched
returns-else-has_row-clause-untouched c = none_untouched c.args.self.now c.args.key c.args.by c.is_segment.ensures (sym c.has_row.ensures ∙ c.if-has_row.false)
