use Rattle.graphalytics_io.proofs.PiecesLemmas.{appended}
use Rattle.graphalytics_io.proofs.pieces.Pieces.append.Goals as goal

pub returns-clause-ok : goal.returns-clause-ok
returns-clause-ok c =
    appended c.self.inside.texts.items c.others.inside.texts.items c.append.new.self.items _ _
    c.in_ok-append.ensures.items c.self.view_is c.others.view_is
