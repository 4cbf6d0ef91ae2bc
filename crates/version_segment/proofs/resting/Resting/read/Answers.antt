use Rattle.std.proofs.Common.{◌≡◌, ◌∙◌, sym}
use Rattle.std.specs.Prelude.{slice_get, IfSome}
use Rattle.version_segment.proofs.ReadLemmas.{plain_read}
use Rattle.version_segment.proofs.resting.Resting.read.Goals as goal

pub returns-else-is_marked-clause-value : goal.returns-else-is_marked-clause-value
returns-else-is_marked-clause-value g c =
    let stamps = (g.S.States.knowledge c.args.states.now).stamps in
    let snapshot = c.args.snapshot.now in
    plain_read stamps snapshot.start snapshot.own (slice_get c.args.self.now.rows c.args.place) c.args.word
    (sym c.is_marked.ensures ∙ c.if-is_marked.false) c.requires.agrees
