use Rattle.graphalytics_io.proofs.PiecesLemmas.{pushed}
use Rattle.graphalytics_io.proofs.pieces.Pieces.push.Goals as goal

pub returns-clause-ok : goal.returns-clause-ok
returns-clause-ok c =
    pushed c.self.inside.texts.items c.push.new.self.items c.args.text _ c.in_ok-push.ensures.items c.self.view_is
