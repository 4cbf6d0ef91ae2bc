use Rattle.std.proofs.Common.{sym, ◌∙◌}
use Rattle.version_segment.proofs.LookupLemmas.{none_undone}
use Rattle.version_segment.proofs.segment.VersionSegment.undo_newest.Goals as goal

pub returns-in-None-clause-undone : goal.returns-in-None-clause-undone
returns-in-None-clause-undone c = none_undone c.args.self.now c.args.key c.is_segment.ensures (sym c.newest.ensures ∙ c.in-None.is)
