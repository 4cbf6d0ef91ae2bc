use Rattle.std.proofs.Common.{ap, sym, ◌∙◌}
use Rattle.graph_model.specs.AccountSteps.{view_of}
use Rattle.desk.specs.Rings.{graph_after}
use Rattle.desk.proofs.LookLemmas.{look_rings, seen_graph}
use Rattle.desk.proofs.look.take_look.Goals as goal

pub returns-in-Ok-image : goal.returns-in-Ok-image
returns-in-Ok-image g c =
    let account = g.E.Engine.account in
    let txn = c.in-Ok.txn in
    let begun = c.in-Ok.ensures.begun in
    let after = account c.abort-session.result.engine in
    let seen = seen_graph (account c.args.session.engine) (account txn.engine) (account c.image-image.new.self.engine)
    after txn.begun.start begun.opened begun.until c.image-image.ensures.reads c.abort-session.ensures in
    record {
      rings = look_rings c.analysed.result after (view_of (account txn.engine) txn.begun.start) c.start-commits.result
          c.in-Ok-image.image c.analysed.ensures.commits c.analysed.ensures.rings c.in-Ok-image.ensures.answer
          (seen ∙ ap (graph_after after) (sym c.start-commits.ensures));
    }
